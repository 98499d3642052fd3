-- The completions of earlier releases, and their files.
use Rattle.std.proofs.Common.{◌≡◌, ℕ, zero, suc, ◌≤◌, Bool, true, false, cond, not, ◌||◌, eqb, leb, List, length, refl, ◌∙◌, arith, drop-cons, eqb-true}
use Rattle.std.specs.Prelude.{Option, None, Some}
use Rattle.endian.specs.Bytes.{any_set}
use Rattle.monitor.specs.Calls.{Call, settings, completion, elapsed, clock, power_up, History, and_then, attribute_in}
use Rattle.monitor.specs.Calls.{WithoutAttribute}
use Rattle.events.specs.Claims.{EarlierCompletions, EarlierFiles}
use Rattle.records.specs.Records.{record_kind, attribute, unnamed, settings_bytes, command_of, completion_of, elapsed_of}
use Rattle.records.specs.Records.{clock_of, call_of_kind, call_of}
use Rattle.events.specs.Files.{record_at, whole_records, calls_before, history_of}
use Rattle.records.proofs.Laws.{of-sixteen}

-- a byte and those behind it are clear
clear : (b : ℕ) (rest : Bool) → (not (eqb b 0) || rest) ≡ false → (b ≡ 0) × (rest ≡ false)
clear b rest h = by (eqb b 0) refl h
  where
    by : (t : Bool) → eqb b 0 ≡ t → (not t || rest) ≡ false → (b ≡ 0) × (rest ≡ false)
    by true e h = (eqb-true b 0 e, h)
    by false e h = (cc, cc)

pub earlier-completions : EarlierCompletions
unfolding EarlierCompletions any_set call_of_kind completion_of command_of
earlier-completions r sixteen kind none-set =
    let two = drop-cons r 2 0 (omega arith) in
    let three = drop-cons r 3 0 (omega arith) in
    let c = clear (attribute r) _ (rw (two, three) at none-set) in
    let rest : any_set (unnamed 3 4 8 r) ≡ false = rw (three, c.1) in
    of-sixteen r sixteen ∙ rw (kind, c.0, rest)

-- a record's call, if there is one, has no attribute
data Without : Option Call → Type 0 where
  no_call : Without None
  without : {call : Call} → attribute_in call ≡ false → Without (Some call)

either : (t : Bool) {x y : Option Call} → (t ≡ true → Without x) → Without y → Without (cond t x y)
either true p q = p refl
either false p q = q

if-clear : (bytes : List ℕ) (call : Call) → attribute_in call ≡ false → Without (cond (any_set bytes) None (Some call))
if-clear bytes call p = either (any_set bytes) (λ _. no_call) (without p)

without-call : (r : List ℕ) → (record_kind r ≡ 2 → attribute r ≡ 0) → Without (call_of r)
unfolding call_of call_of_kind completion_of command_of
without-call r none-set =
    either (eqb (length r) 16)
    (λ _. either (eqb (record_kind r) 1) (λ _. if-clear (unnamed 14 16 16 r) (settings (settings_bytes r)) refl)
    (either (eqb (record_kind r) 2)
    (λ two. either (leb (attribute r) 1)
    (λ _. if-clear (unnamed 3 4 8 r) (completion (command_of r)) (rw (none-set (eqb-true (record_kind r) 2 two))))
    no_call)
    (either (eqb (record_kind r) 3) (λ _. if-clear (unnamed 1 4 8 r) (elapsed (elapsed_of r)) refl)
    (either (eqb (record_kind r) 4) (λ _. if-clear (unnamed 1 4 12 r) (clock (clock_of r)) refl)
    (either (eqb (record_kind r) 5) (λ _. if-clear (unnamed 1 8 8 r) power_up refl) no_call)))))
    no_call

pub earlier-files : EarlierFiles
unfolding EarlierFiles history_of calls_before
earlier-files s none-set = up_to (whole_records s) (omega arith)
  where
    more : {o : Option Call} (h : History) → Without o → WithoutAttribute h → WithoutAttribute (and_then o h)
    more h no_call q = q
    more h (without p) q = (p, q)

    up_to : (n : ℕ) → n ≤ whole_records s → WithoutAttribute (calls_before s n)
    up_to zero l = tt
    up_to (suc n) l =
        more (calls_before s n) (without-call (record_at s n) (none-set n (omega arith))) (up_to n (omega arith))
