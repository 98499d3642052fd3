-- Laws of the records of a file.
use Rattle.std.proofs.Common.{◌≡◌, ℕ, zero, suc, ◌+◌, ◌-◌, ◌*◌, ◌%◌, ◌<◌, ◌≤◌, List, [], length, take, drop, sym, refl, ap, ◌∙◌, add-zero, add-suc, add-one, arith, length-drop, length-take, take_all, drop-drop, eq-eqb, ne_eqb}
use Rattle.std.specs.Prelude.{Option, None, Some}
use native.Mathlib.Nat.{sub-zero}
use Rattle.monitor.specs.declared.record.Monitor.{Monitor}
use Rattle.rules.specs.Answers.{refused, done, unless_refused}
use Rattle.monitor.specs.Calls.{Call, settings, completion, elapsed, clock, power_up, page, settings_back, History}
use Rattle.monitor.specs.Calls.{below_a, after, play_from, refusal_of, found, and_then, or_else}
use Rattle.monitor.specs.Record.{after_settings, after_elapsed, after_clock}
use Rattle.records.specs.Records.{call_of, record_refusal, after_record}
use Rattle.events.specs.Files.{end_refusal, record_at, whole_records, calls_before, history_of, Refusal, NoneRefused}
use Rattle.events.specs.Files.{refusal_at, first_refused_from, first_refused, accepted_records}

-- a refused record leaves the monitor untouched
untouched-by : (c : Call) (m : Monitor) (n : ℕ) → refusal_of c ≡ Some n → after c m ≡ m
unfolding after_settings after_elapsed after_clock
untouched-by (settings s) m n e = rw e
untouched-by (completion c) m n e = cc
untouched-by (elapsed ms) m n e = rw e
untouched-by (clock value) m n e = rw e
untouched-by power_up m n e = cc
untouched-by (page k) m n e = refl
untouched-by (settings_back k) m n e = refl
untouched-by (below_a w) m n e = refl

pub untouched : (m : Monitor) (r : List ℕ) (n : ℕ) → record_refusal r ≡ Some n → after_record m r ≡ m
unfolding record_refusal after_record play_from
untouched m r n e = by (call_of r) e
  where
    by : (o : Option Call) → found (Some 11) refusal_of o ≡ Some n → play_from m (and_then o []) ≡ m
    by None e = refl
    by (Some c) e = untouched-by c m n e

-- one call more, or none
pub then_one :
    (m : Monitor) (h : History) (o : Option Call) →
    play_from (play_from m h) (and_then o []) ≡ play_from m (and_then o h)
unfolding play_from
then_one m h None = refl
then_one m h (Some c) = refl

pub then_same :
    (a b : Monitor) (h k : History) (o : Option Call) →
    play_from a h ≡ play_from b k →
    play_from a (and_then o h) ≡ play_from b (and_then o k)
unfolding play_from
then_same a b h k None e = e
then_same a b h k (Some c) e = ap (after c) e

-- the search passes an accepted record, and stops at a refused one
module _ (s : List ℕ) (i n : ℕ) where
  pass : record_refusal (record_at s i) ≡ None → first_refused_from s i (suc n) ≡ first_refused_from s (suc i) n
  unfolding first_refused_from
  pass e = rw e

  stop : (k : ℕ) → record_refusal (record_at s i) ≡ Some k → first_refused_from s i (suc n) ≡ refusal_at i (Some k)
  unfolding first_refused_from
  stop k e = rw e

-- the code's part of a file is its record
pub the-record : (s : List ℕ) (i : ℕ) → take (16 * i + 16 - 16 * i) (drop (16 * i) s) ≡ record_at s i
the-record s i = let all : 16 * i + 16 - 16 * i ≡ 16 = omega arith in rw all

pub sixteen : (s : List ℕ) (i : ℕ) → i < whole_records s → length (take (16 * i + 16 - 16 * i) (drop (16 * i) s)) ≡ 16
sixteen s i h = omega (arith, length-take (16 * i + 16 - 16 * i) (drop (16 * i) s), length-drop (16 * i) s)

-- where a run is, before record i: none before it was refused
abbrev pub Ran : Monitor → List ℕ → Monitor → ℕ → Type 0
Ran m s monitor i =
    (i ≤ whole_records s)
    × (monitor ≡ play_from m (calls_before s i))
    × (first_refused_from s i (whole_records s - i) ≡ first_refused s)

-- where a run stops
abbrev pub Stopped : Monitor → List ℕ → Monitor → Option Refusal → Type 0
Stopped m s monitor place = (monitor ≡ play_from m (calls_before s (accepted_records s))) × (place ≡ first_refused s)

module _ (m : Monitor) (s : List ℕ) where
  pub started : Ran m s m 0
  unfolding play_from calls_before first_refused
  started = (omega arith, refl, ap (first_refused_from s 0) (sub-zero (whole_records s)))

  module _ (monitor next : Monitor) (i : ℕ) (r : List ℕ) where
    -- an accepted record
    pub went_on :
        Ran m s monitor i →
        r ≡ record_at s i →
        next ≡ after_record monitor r →
        record_refusal r ≡ None →
        i < whole_records s →
        Ran m s next (i + 1)
    unfolding calls_before after_record
    went_on (le, played, rest) er en accepted h =
        let here : record_refusal (record_at s i) ≡ None = rw er at accepted in
        let more : whole_records s - i ≡ suc (whole_records s - suc i) = omega arith in
        rw (add-one i) (
          omega arith,
          rw (en, er, played) (then_one m (calls_before s i) (call_of (record_at s i))),
          sym (pass s i (whole_records s - suc i) here) ∙ (rw more at rest),
        )

    -- a refused one
    pub stopped :
        (n : ℕ) →
        Ran m s monitor i →
        r ≡ record_at s i →
        next ≡ after_record monitor r →
        record_refusal r ≡ Some n →
        i < whole_records s →
        Stopped m s next (refusal_at i (Some n))
    unfolding accepted_records
    stopped n (le, played, rest) er en refusal h =
        let here : record_refusal (record_at s i) ≡ Some n = rw er at refusal in
        let more : whole_records s - i ≡ suc (whole_records s - suc i) = omega arith in
        let first : first_refused s ≡ refusal_at i (Some n) =
        sym (rw more at rest) ∙ stop s i (whole_records s - suc i) n here
        in
        (rw first (en ∙ (untouched monitor r n refusal ∙ played)), sym first)

  -- the end
  pub ended : (monitor : Monitor) (i : ℕ) → Ran m s monitor i → whole_records s ≤ i → Stopped m s monitor None
  unfolding accepted_records first_refused_from
  ended monitor i (le, played, rest) h =
      let all : i ≡ whole_records s = omega arith in
      let none_left : whole_records s - i ≡ 0 = omega arith in
      let first : first_refused s ≡ None = sym (rw none_left at rest) in
      (rw (first, ← all) played, sym first)

-- what the first refused record is
abbrev pub Found : List ℕ → (i n : ℕ) → Refusal → Type 0
Found s i n p = (p.index < i + n) × (record_refusal (record_at s p.index) ≡ Some p.number)

pub found_at : (s : List ℕ) (n i : ℕ) (p : Refusal) → Some p ≡ first_refused_from s i n → Found s i n p
unfolding first_refused_from
found_at s zero i p e = let z : ◌≡◌ {A = ℕ} 0 1 = cc in absurd (omega arith)
found_at s (suc n) i p e = by (record_refusal (record_at s i)) refl e (found_at s n (suc i) p)
  where
    by :
        (o : Option ℕ) →
        record_refusal (record_at s i) ≡ o →
        Some p ≡ or_else (refusal_at i o) (first_refused_from s (suc i) n) →
        (Some p ≡ first_refused_from s (suc i) n → Found s (suc i) n p) →
        Found s i (suc n) p
    by None eo e later = (omega (arith, (later e).0), (later e).1)
    by (Some k) eo e later =
        let index_is : p.index ≡ i = ap (found 0 (λ (x : Refusal). x.index)) e in
        let number_is : p.number ≡ k = ap (found 0 (λ (x : Refusal). x.number)) e in
        (omega arith, rw (index_is, number_is) eo)

-- the records of a file's rest are the file's own
pub rest-record : (s : List ℕ) (i k : ℕ) → record_at (drop (16 * i) s) k ≡ record_at s (i + k)
rest-record s i k =
    let further : 16 * i + 16 * k ≡ 16 * (i + k) = omega arith in
    rw (drop-drop (16 * k) (16 * i) s, further)

pub composed :
    (m : Monitor) (s : List ℕ) (i k : ℕ) →
    play_from (play_from m (calls_before s i)) (calls_before (drop (16 * i) s) k) ≡ play_from m (calls_before s (i + k))
unfolding calls_before play_from
composed m s i zero = rw (add-zero i)
composed m s i (suc k) =
    rw (add-suc i k, rest-record s i k)
    (then_same _ _ (calls_before (drop (16 * i) s) k) (calls_before s (i + k)) (call_of (record_at s (i + k)))
    (composed m s i k))

skip :
    (m : Monitor) (s : List ℕ) (j n : ℕ) →
    record_refusal (record_at s j) ≡ Some n →
    play_from m (calls_before s (suc j)) ≡ play_from m (calls_before s j)
unfolding calls_before after_record
skip m s j n e =
    sym (then_one m (calls_before s j) (call_of (record_at s j))) ∙
    untouched (play_from m (calls_before s j)) (record_at s j) n e

-- where a replay is, before record i
abbrev pub Replayed : Monitor → List ℕ → Monitor → ℕ → Type 0
Replayed m s monitor i = (i ≤ whole_records s) × (monitor ≡ play_from m (calls_before s i))

module _ (m : Monitor) (s : List ℕ) (monitor next : Monitor) (i : ℕ) where
  -- past a refused record
  pub skipped :
      (p : Refusal) →
      Replayed m s monitor i →
      Stopped monitor (drop (16 * i) s) next (Some p) →
      Replayed m s next (i + p.index + 1)
  unfolding accepted_records first_refused
  skipped p (le, played) (en, h) =
      let t = drop (16 * i) s in
      let f = found_at t (whole_records t) 0 p h in
      let here : record_refusal (record_at s (i + p.index)) ≡ Some p.number =
      rw (rest-record s i p.index) at f.1
      in
      let stop-at : accepted_records t ≡ p.index = rw (← h) refl in (
        omega (arith, f.0, length-drop (16 * i) s),
        rw (add-one (i + p.index))
            ((rw (stop-at, played) at en) ∙ (composed m s i p.index ∙
            sym (skip m s (i + p.index) p.number here))),
      )

  -- to the end
  pub replayed :
      Replayed m s monitor i →
      Stopped monitor (drop (16 * i) s) next None →
      next ≡ play_from m (history_of s)
  unfolding accepted_records history_of
  replayed (le, played) (en, h) =
      let t = drop (16 * i) s in
      let all : accepted_records t ≡ whole_records t = rw (← h) refl in
      let sum : i + whole_records t ≡ whole_records s = omega (arith, length-drop (16 * i) s) in
      (rw (all, played) at en) ∙ (rw sum at (composed m s i (whole_records t)))

-- one record more, whatever its call answers
pub one_more :
    (m : Monitor) (s : List ℕ) (monitor next : Monitor) (i : ℕ) (r : List ℕ) →
    Replayed m s monitor i →
    r ≡ record_at s i →
    next ≡ after_record monitor r →
    i < whole_records s →
    Replayed m s next (i + 1)
unfolding calls_before after_record
one_more m s monitor next i r (le, played) er en h =
    rw (add-one i) (omega arith, rw (en, er, played) (then_one m (calls_before s i) (call_of (record_at s i))))

-- the rest of a file behind record i, as the code lends it
pub behind :
    (s : List ℕ) (i : ℕ) →
    i < whole_records s →
    take (length s - (16 * i + 16)) (drop (16 * i + 16) s) ≡ drop (16 * (i + 1)) s
behind s i h =
    let from : 16 * i + 16 ≡ 16 * (i + 1) = omega arith in
    rw from (take_all (length s - 16 * (i + 1)) (drop (16 * (i + 1)) s) (omega (arith, length-drop (16 * (i + 1)) s)))

pub few-behind :
    (s : List ℕ) (i k : ℕ) →
    i < whole_records s →
    k ≤ whole_records (take (length s - (16 * i + 16)) (drop (16 * i + 16) s)) →
    i + 1 + k ≤ whole_records s
few-behind s i k h few =
    omega (
      arith,
      length-take (length s - (16 * i + 16)) (drop (16 * i + 16) s),
      length-drop (16 * i + 16) s,
    )

-- a stretch of k records from record i on
module _ (m : Monitor) (s : List ℕ) (monitor next : Monitor) (i k : ℕ) where
  abbrev rest : List ℕ
  rest = drop (16 * i) s

  went-far :
      Replayed m s monitor i →
      next ≡ play_from monitor (calls_before (drop (16 * i) s) k) →
      k ≤ whole_records (drop (16 * i) s) →
      Replayed m s next (i + k)
  went-far (le, played) e few = (omega (arith, length-drop (16 * i) s), rw (e, played) (composed m s i k))

  pub ran-far :
      Ran m s monitor i →
      next ≡ play_from monitor (calls_before (drop (16 * i) s) k) →
      k ≤ whole_records (drop (16 * i) s) →
      NoneRefused (drop (16 * i) s) k →
      Ran m s next (i + k)
  ran-far (le, played, first) e few accepted =
      let far = went-far (le, played) e few in (far.0, far.1, passed k far.0 accepted ∙ first)
    where
      passed :
          (k : ℕ) →
          i + k ≤ whole_records s →
          NoneRefused (drop (16 * i) s) k →
          first_refused_from s (i + k) (whole_records s - (i + k)) ≡ first_refused_from s i (whole_records s - i)
      passed zero h accepted = rw (add-zero i)
      passed (suc k) h accepted =
          let here = rw (rest-record s i k) at (accepted k (omega arith)) in
          let more : whole_records s - (i + k) ≡ suc (whole_records s - suc (i + k)) = omega arith in
          rw (add-suc i k) (sym (pass s (i + k) (whole_records s - suc (i + k)) here) ∙
          (rw more at (passed k (omega arith) (λ j j<k. accepted j (omega arith)))))

-- the end of a file of n bytes
pub whole : (n : ℕ) → n % 16 ≡ 0 → done ≡ unless_refused (end_refusal n) done
unfolding end_refusal
whole n e = rw (eq-eqb (n % 16) 0 e)

pub some_left : (n : ℕ) → (n % 16 ≡ 0 → ⊥) → refused 12 ≡ unless_refused (end_refusal n) done
unfolding end_refusal
some_left n e = rw (ne_eqb (n % 16) 0 e)
