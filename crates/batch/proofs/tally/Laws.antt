-- Laws of codes, of the parts of the counts, and of bounds.
use mathlib.Core.Path.{◌≡◌, refl, sym, ap, ◌∙◌}
use mathlib.Core.Bool.{Bool, true, false, cond, not, ◌&&◌, true≢false}
use mathlib.Core.List.{List, [], ◌∷◌, ◌++◌}
use Rattle.std.specs.Prelude.{Option, None, Some, unwrap_or}
use Prim.Native.Nat.{ℕ, zero, suc, ◌+◌, ◌-◌, ◌*◌, ◌/◌, ◌%◌, ◌≤◌, ◌<◌}
use native.Mathlib.Omega.{arith}
use borrow.Author.Tests.{eq-eqb, ne_eqb, ltb-true, ltb-false}
use lib.Dec.{eqb, ltb}
use borrow.Rule.Slice.PartMut.{put_mid}
use lib.ListN.{length, get_or, set, take, drop, replicate, get_or-append, get_or-replicate, get_or-map}
use Rattle.std.proofs.lemmas.List.{take-append-le, drop-append-le, take_all, drop_all}
use lib.Seq.{get_or-append_right, get_or-drop}
use Rattle.logpage.specs.declared.fields.Settings.{Settings}
use Rattle.rules.specs.declared.commands.Command.{Command}
use Rattle.window.proofs.Table.{by-rule}
use Rattle.rules.proofs.commands.Laws.{bucket-few, kind-few}
use Rattle.rules.specs.Commands.{kind_of, bucket_of}
use Rattle.rules.specs.Counting.{held}
use Rattle.monitor.specs.declared.record.Monitor.{Monitor}
use Rattle.rules.specs.Refusals.{unordered}
use Rattle.monitor.specs.Record.{triggers_at}
use Rattle.batch.specs.Tally.{bucket_place, count_place, code_of, kind_place, KindPlaces, held_all, AtMost, counter_bound, bound_at, Bounds, at_most_loads}

-- a command of each code
abbrev pub command_at : ℕ → Command
command_at code = record { opcode = code / 2; deallocate = eqb (code % 2) 1; latency = 0 }

-- the code decides on the kind
same_kind : (c : Command) → kind_of (command_at (code_of c)) ≡ kind_of c
unfolding kind_of
same_kind c = rw (opcode c.deallocate, attribute c.deallocate)
  where
    opcode : (d : Bool) → (2 * c.opcode + cond d 1 0) / 2 ≡ c.opcode
    opcode true = omega arith
    opcode false = omega arith

    attribute : (d : Bool) → eqb ((2 * c.opcode + cond d 1 0) % 2) 1 ≡ d
    attribute true = eq-eqb ((2 * c.opcode + 1) % 2) 1 (omega arith)
    attribute false = ne_eqb ((2 * c.opcode + 0) % 2) 1 (λ e. omega arith)

-- and those from 32 on have none
no_kind : (c : Command) → 32 ≤ code_of c → kind_of c ≡ None
unfolding kind_of
no_kind c h =
    let high = from c.deallocate h in
    rw (
      ne_eqb c.opcode 2 (λ e. omega (arith, high)),
      ne_eqb c.opcode 1 (λ e. omega (arith, high)),
      ne_eqb c.opcode 9 (λ e. omega (arith, high)),
      ne_eqb c.opcode 8 (λ e. omega (arith, high)),
    )
  where
    from : (d : Bool) → 32 ≤ 2 * c.opcode + cond d 1 0 → 16 ≤ c.opcode
    from true h = omega arith
    from false h = omega arith

-- so their places are the same
same_place : (enabled : Bool) (c : Command) → kind_place enabled (command_at (code_of c)) ≡ kind_place enabled c
unfolding kind_place
same_place enabled c = rw (same_kind c)

pub kindless-place : (enabled : Bool) (c : Command) → kind_of c ≡ None → kind_place enabled c ≡ 15
unfolding kind_place
kindless-place true c kind = rw kind
kindless-place false c kind = refl

-- there are 28 places
pub bucket_place_few : (thresholds : List ℕ) (c : Command) → bucket_place (bucket_of thresholds c) ≤ 12
bucket_place_few thresholds c = by (bucket_of thresholds c) refl
  where
    by : (o : Option ℕ) → bucket_of thresholds c ≡ o → bucket_place o ≤ 12
    by (Some b) e = omega (arith, bucket-few thresholds c b e)
    by None e = omega arith

pub kind_place_few : (enabled : Bool) (c : Command) → kind_place enabled c ≤ 15
unfolding kind_place
kind_place_few false c = omega arith
kind_place_few true c = by (kind_of c) refl
  where
    by : (o : Option ℕ) → kind_of c ≡ o → unwrap_or o 15 ≤ 15
    by (Some k) e = omega (arith, kind-few c k e)
    by None e = omega arith

-- the table of the buckets' places; below threshold A none is found, and the last place is taken
pub bucket_in_table :
    (thresholds : List ℕ) (c : Command) →
    (unwrap_or (bucket_of thresholds c) 4 < 5)
    × (get_or (0 ∷ 3 ∷ 6 ∷ 9 ∷ 12 ∷ []) (unwrap_or (bucket_of thresholds c) 4) 0 ≡
    bucket_place (bucket_of thresholds c))
bucket_in_table thresholds c = by (bucket_of thresholds c) refl
  where
    by :
        (o : Option ℕ) →
        bucket_of thresholds c ≡ o →
        (unwrap_or o 4 < 5) × (get_or (0 ∷ 3 ∷ 6 ∷ 9 ∷ 12 ∷ []) (unwrap_or o 4) 0 ≡ bucket_place o)
    by None e = (omega arith, refl)
    by (Some b) e =
        let few = bucket-few thresholds c b e in (omega arith, by-rule (λ (n : ℕ). 3 * n) 5 b (omega (arith, few)))

pub few_places : (s : Settings) (c : Command) → count_place s c < 28
few_places s c = omega (arith, bucket_place_few s.thresholds c, kind_place_few s.enabled c)

-- a place of the counts as the record holds them
pub held_at : (counts : List ℕ) (place : ℕ) → get_or (held_all counts) place 0 ≡ held (get_or counts place 0)
held_at counts place = get_or-map held counts place 0

pub held-set : (counts : List ℕ) (place v : ℕ) → held_all (set counts place v) ≡ set (held_all counts) place (held v)
held-set [] place v = refl
held-set (x ∷ xs) zero v = refl
held-set (x ∷ xs) (suc place) v = ap (λ (zs : List ℕ). held x ∷ zs) (held-set xs place v)

-- a part of the counts, and the parts put together
pub at-most-append :
    (top : ℕ) (xs ys : List ℕ) → AtMost top xs → AtMost top ys → AtMost top (xs ++ ys)
at-most-append top [] ys front back place = back place
at-most-append top (x ∷ xs) ys front back zero = front zero
at-most-append top (x ∷ xs) ys front back (suc place) =
    at-most-append top xs ys (λ p. front (suc p)) back place

no-count : (top n : ℕ) → AtMost top (replicate n 0)
no-count top zero place = omega arith
no-count top (suc n) zero = omega arith
no-count top (suc n) (suc place) = no-count top n place

-- counts of which none is above the top are held as they are
held-same : (counts : List ℕ) → AtMost 4294967295 counts → held_all counts ≡ counts
held-same [] most = refl
held-same (x ∷ xs) most =
    let same : held x ≡ x = omega (arith, most 0) in
    rw (same, held-same xs (λ p. most (suc p)))

-- counters, counts below threshold A behind them, and none after
module _ (counters below : List ℕ) where
  abbrev pub together : List ℕ
  together = counters ++ (below ++ replicate 13 0)

  module _ (twelve : length counters ≡ 12) where
    pub put-behind : put_mid 12 3 (counters ++ replicate 16 0) below ≡ together
    put-behind =
        rw (
          take-append-le 12 counters (replicate 16 0) (omega arith),
          take_all 12 counters (omega arith),
          drop-append-le 12 counters (replicate 16 0) (omega arith),
          drop_all 12 counters (omega arith),
        )

    module _
        (three : length below ≡ 3)
        (few : AtMost 4294967295 counters)
        (few-below : AtMost 4294967295 below)
      where
        pub at-most-joined : AtMost 4294967295 together
        at-most-joined =
            at-most-append 4294967295 counters (below ++ replicate 13 0) few
            (at-most-append 4294967295 below (replicate 13 0) few-below (no-count 4294967295 13))

        pub counters-joined : take 12 (held_all together) ≡ counters
        counters-joined =
            rw (
              held-same together at-most-joined,
              take-append-le 12 counters (below ++ replicate 13 0) (omega arith),
              take_all 12 counters (omega arith),
            )

        pub below-joined : take 3 (drop 12 (held_all together)) ≡ below
        below-joined =
            rw (
              held-same together at-most-joined,
              drop-append-le 12 counters (below ++ replicate 13 0) (omega arith),
              drop_all 12 counters (omega arith),
              take-append-le 3 below (replicate 13 0) (omega arith),
              take_all 3 below (omega arith),
            )

-- the bounds of all places that hold a count
pub no-bounds : (m : Monitor) → unordered m.settings.thresholds ≡ true → Bounds m (replicate 28 0)
unfolding bound_at
no-bounds m out place h = rw out (get_or-replicate 28 place 0 0 (omega arith))

pub all-bounds :
    (m : Monitor) (bounds : List ℕ) →
    unordered m.settings.thresholds ≡ false →
    length bounds ≡ 12 →
    ((n : ℕ) → n < 12 → get_or bounds n 0 ≡ counter_bound m n) →
    Bounds m (bounds ++ replicate 16 4294967295)
unfolding bound_at
all-bounds m bounds in_order twelve filled place h = rw in_order (by (ltb place 12) refl)
  where
    by :
        (t : Bool) →
        ltb place 12 ≡ t →
        get_or (bounds ++ replicate 16 4294967295) place 0 ≡ cond (ltb place 12) (counter_bound m place) 4294967295
    by true e =
        let few = ltb-true place 12 e in
        rw (e, get_or-append bounds (replicate 16 4294967295) 0 place (omega arith)) (filled place few)
    by false e =
        let past = ltb-false place 12 e in
        rw (e, get_or-append_right bounds (replicate 16 4294967295) place 0 (omega arith), twelve)
        (get_or-replicate 16 (place - 12) 4294967295 0 (omega arith))

-- the places of all codes
pub all-places :
    (enabled : Bool) (places : List ℕ) →
    length places ≡ 32 →
    ((code : ℕ) → code < 32 → get_or places code 0 ≡ kind_place enabled (command_at code)) →
    KindPlaces enabled (places ++ drop 32 (replicate 512 15))
all-places enabled places first filled c h = by (ltb (code_of c) 32) refl
  where
    by :
        (t : Bool) →
        ltb (code_of c) 32 ≡ t →
        get_or (places ++ drop 32 (replicate 512 15)) (code_of c) 0 ≡ kind_place enabled c
    by true e =
        let low = ltb-true (code_of c) 32 e in
        get_or-append places (drop 32 (replicate 512 15)) 0 (code_of c) (omega arith) ∙
        (filled (code_of c) low ∙ same_place enabled c)
    by false e =
        let high = ltb-false (code_of c) 32 e in
        let at : 32 + (code_of c - 32) ≡ code_of c = omega arith in
        get_or-append_right places (drop 32 (replicate 512 15)) (code_of c) 0 (omega arith) ∙
        rw (first, get_or-drop {A = ℕ} 32 (replicate 512 15) (code_of c - 32) 0, at)
        (get_or-replicate 512 (code_of c) 15 0 h ∙ sym (kindless-place enabled c (no_kind c high)))

-- a completion at such a place has a counter, and takes no debug log
pub has-counter :
    (m : Monitor) (place : ℕ) →
    at_most_loads m place ≡ true →
    (place < 12) × (unordered m.settings.thresholds ≡ false) × (triggers_at m place ≡ false)
unfolding at_most_loads
has-counter m place e =
    by (ltb place 12) refl (unordered m.settings.thresholds) refl (triggers_at m place) refl e
  where
    by :
        (counter : Bool) →
        ltb place 12 ≡ counter →
        (out : Bool) →
        unordered m.settings.thresholds ≡ out →
        (takes : Bool) →
        triggers_at m place ≡ takes →
        (counter && (not out && not takes)) ≡ true →
        (place < 12) × (unordered m.settings.thresholds ≡ false) × (triggers_at m place ≡ false)
    by true n false o false t e = (ltb-true place 12 n, o, t)
    by false n out o takes t e = absurd (true≢false (sym e))
    by true n true o takes t e = absurd (true≢false (sym e))
    by true n false o true t e = absurd (true≢false (sym e))
