-- Laws of the lines of a block.
use Rattle.std.proofs.Common.{◌≡◌, ℕ, zero, suc, ◌+◌, ◌-◌, ◌*◌, ◌%◌, ◌^◌, ◌≤◌, List, [], ◌∷◌, ◌++◌, length, drop, sym, refl, ap, ◌∙◌, arith, length-append, length-drop}
use Rattle.std.specs.Prelude.{Option, None, Some}
use native.Mathlib.Nat.{sub-zero}
use lib.Seq.{sets, length-sets}
use borrow.Rule.Slice.PartMut.{put_mid}
use Rattle.endian.proofs.Runs.{run-left, part-run}
use Rattle.rules.specs.Answers.{refused, done, unless_refused}
use Rattle.monitor.specs.Calls.{found, or_else}
use Rattle.text.specs.Lines.{refused_line}
use Rattle.events.specs.Blocks.{Stored, record_line, lines_from, refused_lines, end_line}
use Rattle.records.specs.Records.{record_refusal}
use Rattle.events.specs.Files.{Refusal, refusal_at, first_refused_from, first_refused, record_at}
use Rattle.events.specs.Files.{whole_records, end_refusal}
use Rattle.events.proofs.files.Laws.{rest-record}

-- a line that is copied to a part of the output
pub line-put :
    (line t out last : List ℕ) (at : ℕ) →
    line ≡ t →
    length line ≤ 50 →
    at + 50 ≤ length out →
    last ≡ line →
    Stored t at 50 out (put_mid at (at + length line - at) out last) (length line)
line-put line t out last at e le room copied =
    let k : at + length line - at ≡ length line = omega arith in
    let whole = part-run out last line at _ (omega (arith, k)) (sym k) copied in
    record { content = whole ∙ ap (sets out at) e; exact = ap length e; within = le }

-- storing keeps the room
pub same-room :
    {t before after : List ℕ} {at room took : ℕ} →
    Stored t at room before after took →
    length after ≡ length before
same-room {t} {before} {after} {at} s = ap length s.content ∙ length-sets before at t

-- the line of a refused record that a run of the rest stopped at
abbrev pub line_of : (first i : ℕ) → Refusal → List ℕ
line_of first i p = refused_line ((first + (i + p.index)) % 2 ^ 64 ∷ p.number ∷ [])

-- the lines from record i on: those of the rest, whose records are numbered from 0
module _ (first : ℕ) (s : List ℕ) (i : ℕ) where
  abbrev rest : List ℕ
  rest = drop (16 * i) s

  -- no line before the first refused record
  pub next-line :
      (n k : ℕ) (p : Refusal) →
      Some p ≡ first_refused_from rest k n →
      lines_from first s (i + k) n ≡ line_of first i p ++ lines_from first s (suc (i + p.index)) (k + n - suc p.index)
  unfolding first_refused_from lines_from record_line
  next-line zero k p e = let z : ◌≡◌ {A = ℕ} 0 1 = cc in absurd (omega arith)
  next-line (suc n) k p e = by (record_refusal (record_at rest k)) refl e (next-line n (suc k) p)
    where
      by :
          (o : Option ℕ) →
          record_refusal (record_at rest k) ≡ o →
          Some p ≡ or_else (refusal_at k o) (first_refused_from rest (suc k) n) →
          (Some p ≡ first_refused_from rest (suc k) n →
          lines_from first s (i + suc k) n ≡
          line_of first i p ++ lines_from first s (suc (i + p.index)) (suc k + n - suc p.index)) →
          lines_from first s (i + k) (suc n) ≡
          line_of first i p ++ lines_from first s (suc (i + p.index)) (k + suc n - suc p.index)
      by None eo e later =
          let here : record_refusal (record_at s (i + k)) ≡ None = rw (rest-record s i k) at eo in
          let on : suc (i + k) ≡ i + suc k = omega arith in
          let left : k + suc n - suc p.index ≡ suc k + n - suc p.index = omega arith in
          rw (here, on, left) (later e)
      by (Some x) eo e later =
          let here : record_refusal (record_at s (i + k)) ≡ Some x = rw (rest-record s i k) at eo in
          let index_is : p.index ≡ k = ap (found 0 (λ (x : Refusal). x.index)) e in
          let number_is : p.number ≡ x = ap (found 0 (λ (x : Refusal). x.number)) e in
          let left : k + suc n - suc k ≡ n = omega arith in
          rw (here, index_is, number_is, left) refl

  -- no line at all
  pub no_lines : (n k : ℕ) → None ≡ first_refused_from rest k n → lines_from first s (i + k) n ≡ []
  unfolding first_refused_from lines_from record_line
  no_lines zero k e = refl
  no_lines (suc n) k e = by (record_refusal (record_at rest k)) refl e (no_lines n (suc k))
    where
      by :
          (o : Option ℕ) →
          record_refusal (record_at rest k) ≡ o →
          None ≡ or_else (refusal_at k o) (first_refused_from rest (suc k) n) →
          (None ≡ first_refused_from rest (suc k) n → lines_from first s (i + suc k) n ≡ []) →
          lines_from first s (i + k) (suc n) ≡ []
      by None eo e later =
          let here : record_refusal (record_at s (i + k)) ≡ None = rw (rest-record s i k) at eo in
          let on : suc (i + k) ≡ i + suc k = omega arith in
          rw (here, on) (later e)
      by (Some x) eo e later = cc

-- the lines before record i are stored; those that are left, stored from here, give the whole
pub record Told (first : ℕ) (s before after : List ℕ) (i took : ℕ) : Type 0 where
  pub room : length after ≡ length before
  pub within : took ≤ 50 * i
  pub content : sets after took (lines_from first s i (whole_records s - i)) ≡ sets before 0 (refused_lines first s)
  pub exact : took + length (lines_from first s i (whole_records s - i)) ≡ length (refused_lines first s)

module _ (first : ℕ) (s before : List ℕ) where
  pub told_none : Told first s before before 0 0
  unfolding refused_lines
  told_none =
      let all : whole_records s - 0 ≡ whole_records s = sub-zero (whole_records s) in
      record { room = refl; within = omega arith; content = rw all; exact = rw all (omega arith) }

  -- the line of the next refused record
  pub told_line :
      (after next : List ℕ) (i took more : ℕ) (p : Refusal) →
      i ≤ whole_records s →
      Told first s before after i took →
      Some p ≡ first_refused (drop (16 * i) s) →
      Stored (line_of first i p) took 50 after next more →
      length next ≡ length after →
      Told first s before next (i + p.index + 1) (took + more)
  unfolding first_refused
  told_line after next i took more p le t e st same =
      let r = drop (16 * i) s in
      let whole : whole_records r ≡ whole_records s - i = omega (arith, length-drop (16 * i) s) in
      let zero-on : i + 0 ≡ i = omega arith in
      let on : suc (i + p.index) ≡ i + p.index + 1 = omega arith in
      let left : 0 + (whole_records s - i) - suc p.index ≡ whole_records s - (i + p.index + 1) = omega arith in
      let lines :
      lines_from first s i (whole_records s - i) ≡
      line_of first i p ++ lines_from first s (i + p.index + 1) (whole_records s - (i + p.index + 1)) =
      rw (zero-on, whole, on, left) at (next-line first s i (whole_records r) 0 p e)
      in
      record {
        room = same ∙ t.room;
        within = omega (arith, t.within, st.within);
        content =
            run-left after next _ (line_of first i p) (lines_from first s (i + p.index + 1) _) took (took + more)
            (omega (arith, st.exact))
            (rw lines at t.content)
            st.content;
        exact = omega (arith, st.exact, rw (lines, length-append) at t.exact);
      }

  -- the end
  pub told-all :
      (after : List ℕ) (i took : ℕ) →
      i ≤ whole_records s →
      Told first s before after i took →
      None ≡ first_refused (drop (16 * i) s) →
      50 * whole_records s ≤ length before →
      Stored (refused_lines first s) 0 (length before) before after took
  unfolding first_refused
  told-all after i took le t e room =
      let r = drop (16 * i) s in
      let whole : whole_records r ≡ whole_records s - i = omega (arith, length-drop (16 * i) s) in
      let zero-on : i + 0 ≡ i = omega arith in
      let lines : lines_from first s i (whole_records s - i) ≡ [] =
      rw (zero-on, whole) at (no_lines first s i (whole_records r) 0 e)
      in
      record {
        content = rw lines at t.content;
        exact = omega (arith, rw lines at t.exact);
        within = omega (arith, t.within);
      }

-- the end of the input: an answer says whether there was a refusal, and which
not-refused : (o : Option ℕ) → done ≡ unless_refused o done → o ≡ None
not-refused None e = refl
not-refused (Some n) e = cc

refused-by : (o : Option ℕ) (n : ℕ) → refused n ≡ unless_refused o done → o ≡ Some n
refused-by None n e = cc
refused-by (Some k) n e = cc

pub some-line : (records n refusal : ℕ) → refused refusal ≡ unless_refused (end_refusal n) done → refused_line (records ∷ refusal ∷ []) ≡ end_line records n
unfolding end_line
some-line records n refusal answer = rw (refused-by (end_refusal n) refusal answer)

pub none-line : (records n : ℕ) → done ≡ unless_refused (end_refusal n) done → [] ≡ end_line records n
unfolding end_line
none-line records n answer = rw (not-refused (end_refusal n) answer)
