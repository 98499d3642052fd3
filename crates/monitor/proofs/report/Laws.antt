-- What the calls that only read come to, as laws over plain values.
use mathlib.Core.Path.{◌≡◌, refl, sym, ap, ◌∙◌}
use mathlib.Core.Bool.{Bool, true, false, not, cond}
use mathlib.Core.List.{List}
use Prim.Native.Nat.{ℕ}
use lib.Dec.{eqb}
use lib.ListN.{length}
use lib.Seq.{sets}
use borrow.Author.Tests.{eq-eqb, ne_eqb}
use Rattle.endian.proofs.Runs.{sets-whole}
use Rattle.logpage.specs.Page.{page_bytes}
use Rattle.monitor.specs.declared.record.Monitor.{Monitor}
use Rattle.std.specs.Prelude.{Option, Some, None, Result, Ok, Err}
use Rattle.refusals.specs.declared.Refusal.{Refusal}
use Rattle.refusals.specs.Refusals.{refusal_in}
use Rattle.logpage.specs.Answers.{row}
use Rattle.monitor.specs.Record.{untouched_if}
use Rattle.rules.specs.Answers.{CallAnswer, done, refused, unless_refused, says_answer}
use Rattle.rules.specs.Refusals.{page_refusal, settings_back_refusal}
use Rattle.monitor.specs.Report.{fields_of, page_of, after_page, page_answer, settings_of, after_settings_back}
use Rattle.monitor.specs.Report.{settings_back_answer}
use Rattle.rules.specs.Settings.{encoded}
use Rattle.rules.proofs.settings.Laws.{length-encoded}

-- an answer with nothing to tell says its refusal alone
says-refusal : (answer : Result Unit Refusal) → says_answer answer ≡ unless_refused (refusal_in answer) done
says-refusal (Ok x) = refl
says-refusal (Err e) = refl

module _ (m : Monitor) (buffer after : List ℕ) where
  -- what `page` promises, by what the writer says
  pub page-says :
      (answer : Result Unit Refusal) →
      after ≡ cond (eqb (length buffer) 512) (page_bytes (fields_of m)) buffer →
      refusal_in answer ≡ cond (eqb (length buffer) 512) None (Some 9) →
      (after ≡ after_page m buffer) × (says_answer answer ≡ page_answer (length buffer))
  unfolding after_page page_answer page_refusal page_of
  page-says answer bytes refusal = by (eqb (length buffer) 512) bytes refusal
    where
      by :
          (fits : Bool) →
          after ≡ cond fits (page_bytes (fields_of m)) buffer →
          refusal_in answer ≡ cond fits None (Some 9) →
          (after ≡ untouched_if (row 9 (not fits) None) buffer (page_bytes (fields_of m))) ×
          (says_answer answer ≡ unless_refused (row 9 (not fits) None) done)
      by true b r = (b, says-refusal answer ∙ ap (λ (o : Option ℕ). unless_refused o done) r)
      by false b r = (b, says-refusal answer ∙ ap (λ (o : Option ℕ). unless_refused o done) r)

  -- what `settings_back` promises
  abbrev pub SettingsSay : CallAnswer → Type 0
  SettingsSay answer = (after ≡ after_settings_back m buffer) × (answer ≡ settings_back_answer (length buffer))

  pub settings-written :
      (bytes : List ℕ) →
      length buffer ≡ 4096 →
      bytes ≡ encoded m.settings →
      after ≡ sets buffer 0 bytes →
      SettingsSay done
  unfolding after_settings_back settings_back_answer settings_back_refusal settings_of
  settings-written bytes fits made copied =
      let whole = sets-whole buffer (encoded m.settings) (length-encoded m.settings ∙ sym fits) in (
        copied ∙ ap (sets buffer 0) made ∙ whole ∙ rw (eq-eqb (length buffer) 4096 fits),
        rw (eq-eqb (length buffer) 4096 fits),
      )

  pub settings-refused : (length buffer ≡ 4096 → ⊥) → after ≡ buffer → SettingsSay (refused 10)
  unfolding after_settings_back settings_back_answer settings_back_refusal
  settings-refused other kept =
      (kept ∙ rw (ne_eqb (length buffer) 4096 other), rw (ne_eqb (length buffer) 4096 other))
