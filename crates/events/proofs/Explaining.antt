-- What is said of a record: by a file in parts, and with the refused records skipped.
use Rattle.std.proofs.Common.{◌≡◌, ℕ, zero, suc, ◌+◌, ◌-◌, ◌*◌, ◌%◌, ◌<◌, ◌≤◌, Bool, true, false, ltb, List, [], ◌∷◌, ◌++◌, length, take, drop, sym, refl, ap, ◌∙◌, true≢false, append-nil, arith, length-append, take-append-drop, length-take, take_all, ltb-false, ltb-true, le-ltb, lt-ltb}
use Rattle.std.specs.Prelude.{Option, None, Some, is_none}
use Rattle.monitor.proofs.Laws.{nothing-there}
use lib.Seq.{take-append-le, take-append-add}
use Rattle.monitor.specs.declared.record.Monitor.{Monitor}
use Rattle.monitor.specs.Calls.{found, and_then, or_else, play_from}
use Rattle.monitor.specs.Record.{new_monitor}
use Rattle.events.specs.declared.explain.Question.{Question}
use Rattle.events.specs.Claims.{InParts, joined, OfWholeRecords, ExplainedInParts, RefusedSkipped}
use Rattle.events.specs.Explain.{Said, bytes_before, said_at, at_end, number_said, input_said, question_of}
use Rattle.events.specs.Explain.{after_part, part_said, parts_said}
use Rattle.records.specs.Records.{call_of, record_refusal, accepted_call, after_record}
use Rattle.events.specs.Files.{record_at, whole_records, calls_before, accepted_before, history_of}
use Rattle.events.proofs.Parts.{in_parts, same-record, same-calls, later-record}
use Rattle.events.proofs.files.Laws.{untouched, then_one, then_same}

module _ (m : Monitor) (s t : List ℕ) (whole : 16 * whole_records s ≡ length s) where
  sum : whole_records (s ++ t) ≡ whole_records s + whole_records t
  sum = omega (arith, whole, length-append s t)

  -- a record of the first part
  here : (n : ℕ) → n < whole_records s → said_at m (s ++ t) n ≡ said_at m s n
  unfolding said_at
  here n h =
      rw (
        lt-ltb n (whole_records s) h,
        lt-ltb n (whole_records (s ++ t)) (omega (arith, sum)),
        take-append-le (16 * n) s t (omega arith),
        same-record s t n (omega arith),
      )

  -- a record of what follows
  shifted : (i : ℕ) → ltb (whole_records s + i) (whole_records (s ++ t)) ≡ ltb i (whole_records t)
  shifted i = by (ltb i (whole_records t)) refl
    where
      by : (b : Bool) → ltb i (whole_records t) ≡ b → ltb (whole_records s + i) (whole_records (s ++ t)) ≡ b
      by true e =
          lt-ltb (whole_records s + i) (whole_records (s ++ t)) (omega (arith, sum, ltb-true i (whole_records t) e))
      by false e =
          le-ltb (whole_records s + i) (whole_records (s ++ t)) (omega (arith, sum, ltb-false i (whole_records t) e))

  before_shifted : (i : ℕ) → bytes_before (s ++ t) (whole_records s + i) ≡ s ++ bytes_before t i
  before_shifted i =
      let bytes : 16 * (whole_records s + i) ≡ length s + 16 * i = omega (arith, whole) in
      rw bytes (take-append-add s t (16 * i))

  later : (i : ℕ) → said_at m (s ++ t) (whole_records s + i) ≡ said_at (play_from m (history_of s)) t i
  unfolding said_at InParts
  later i =
      let played = in_parts m s (bytes_before t i) (omega (arith, whole)) in
      rw (shifted i, before_shifted i, ← played, later-record s t whole i)

-- two parts: where the first says nothing, the second is asked the question that the first leaves
pub two-parts :
    (q : Question) (s t : List ℕ) →
    length s % 16 ≡ 0 →
    part_said q (s ++ t) ≡ or_else (part_said q s) (part_said (after_part q s) t)
unfolding after_part said_at
two-parts q s t e = by (ltb q.before (whole_records s)) refl
  where
    whole : 16 * whole_records s ≡ length s
    whole = omega arith

    by :
        (b : Bool) →
        ltb q.before (whole_records s) ≡ b →
        part_said q (s ++ t) ≡ or_else (part_said q s) (part_said (after_part q s) t)
    by true h = here q.monitor s t whole q.before (ltb-true q.before (whole_records s) h) ∙ (rw h)
    by false h =
        let passed : whole_records s ≤ q.before = ltb-false q.before (whole_records s) h in
        let split : q.before ≡ whole_records s + (q.before - whole_records s) = omega arith in
        ap (λ (k : ℕ). said_at q.monitor (s ++ t) k) split ∙
        (later q.monitor s t whole (q.before - whole_records s) ∙
        (rw (h, take_all (16 * q.before) s (omega (arith, passed, whole)))))

-- nothing is said of a record that a part ends before
pub ends-before : (q : Question) (s : List ℕ) → part_said q s ≡ None → whole_records s ≤ q.before
unfolding said_at
ends-before q s e = by (ltb q.before (whole_records s)) refl
  where
    by : (t : Bool) → ltb q.before (whole_records s) ≡ t → whole_records s ≤ q.before
    by true h = absurd (nothing-there _ (sym (rw h at e)))
    by false h = ltb-false q.before (whole_records s) h

pub says_nothing : (o : Option Said) → is_none o ≡ true → o ≡ None
says_nothing None e = refl
says_nothing (Some said) e = absurd (true≢false (sym e))

-- any parts
first-or-end : (o x : Option Said) → found (at_end x) (λ said. said) o ≡ at_end (or_else o x)
first-or-end None x = refl
first-or-end (Some said) x = refl

all-parts :
    (parts : List (List ℕ)) (q : Question) →
    OfWholeRecords parts →
    parts_said q parts ≡ at_end (part_said q (joined parts))
unfolding parts_said said_at
all-parts [] q whole = rw (le-ltb q.before 0 (omega arith))
all-parts (s ∷ []) q whole = rw (append-nil s)
all-parts (s ∷ t ∷ parts) q (whole, rest) =
    rw (all-parts (t ∷ parts) (after_part q s) rest, two-parts q s (joined (t ∷ parts)) whole)
    (first-or-end (part_said q s) (part_said (after_part q s) (joined (t ∷ parts))))

-- the number's bytes say as much as the input that begins with them
number-alone : (input : List ℕ) → number_said (length (take 4 input)) ≡ number_said (length input)
unfolding number_said
number-alone input = by (ltb (length input) 4) refl
  where
    by : (b : Bool) → ltb (length input) 4 ≡ b → number_said (length (take 4 input)) ≡ number_said (length input)
    by true e =
        rw (e, lt-ltb (length (take 4 input)) 4 (omega (arith, length-take 4 input, ltb-true (length input) 4 e)))
    by false e =
        rw (e, le-ltb (length (take 4 input)) 4 (omega (arith, length-take 4 input, ltb-false (length input) 4 e)))

pub explained-in-parts : ExplainedInParts
unfolding ExplainedInParts input_said question_of
explained-in-parts input parts file whole =
    let all = all-parts parts (question_of (take 4 input)) whole in
    let four : take 4 (take 4 input) ≡ take 4 input = take_all 4 (take 4 input) (omega (arith, length-take 4 input)) in
    rw (all, number-alone input, file, four)

-- a refused record leaves the monitor
skip : (m : Monitor) (r : List ℕ) (k : ℕ) → record_refusal r ≡ Some k → play_from m (and_then (call_of r) []) ≡ m
unfolding after_record
skip m r k e = untouched m r k e

accepted-alone : (m : Monitor) (s : List ℕ) (n : ℕ) → play_from m (calls_before s n) ≡ play_from m (accepted_before s n)
unfolding calls_before accepted_before play_from
accepted-alone m s zero = refl
accepted-alone m s (suc n) = by (record_refusal (record_at s n)) refl (accepted-alone m s n)
  where
    by :
        (o : Option ℕ) →
        record_refusal (record_at s n) ≡ o →
        play_from m (calls_before s n) ≡ play_from m (accepted_before s n) →
        play_from m (and_then (call_of (record_at s n)) (calls_before s n)) ≡
        play_from m (and_then (accepted_call (record_at s n)) (accepted_before s n))
    by None e same = rw e (then_same m m _ _ (call_of (record_at s n)) same)
    by (Some k) e same =
        rw e
        (sym (then_one m (calls_before s n) (call_of (record_at s n))) ∙
        (skip (play_from m (calls_before s n)) (record_at s n) k e ∙ same))

-- the bytes of the records before record n have their calls
history-before : (s : List ℕ) (n : ℕ) → n ≤ whole_records s → history_of (bytes_before s n) ≡ calls_before s n
unfolding history_of
history-before s n h =
    let all : whole_records (bytes_before s n) ≡ n = omega (arith, length-take (16 * n) s) in
    let calls = same-calls (bytes_before s n) (drop (16 * n) s) n (omega arith) in
    rw all (sym (rw (take-append-drop (16 * n) s) at calls))

pub refused-skipped : RefusedSkipped
unfolding RefusedSkipped
refused-skipped s n h = rw (history-before s n h) (accepted-alone new_monitor s n)
