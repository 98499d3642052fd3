-- Completions that do nothing but count: what one leaves, by the place of its count.
use mathlib.Core.Path.{◌≡◌, refl, sym, ap, ◌∙◌}
use mathlib.Core.Bool.{Bool, true, false, cond, true≢false, ◌||◌}
use mathlib.Core.List.{List}
use Rattle.std.specs.Prelude.{Option, None, Some, option_map}
use Prim.Native.Nat.{ℕ, ◌+◌, ◌*◌, ◌-◌, ◌≤◌, ◌<◌}
use native.Mathlib.Omega.{arith}
use borrow.Author.Tests.{eqb-true, eqb-false, lt-ltb, le-ltb, leb-false, lt-leb, ltb-true, ltb-false}
use lib.Dec.{eqb, ltb}
use lib.ListN.{length, length-set, get_or, set, take, drop}
use lib.Seq.{get_or-take, get_or-drop, get_or-set_same, get_or-set_other, set-get_or, take-set-le, take-set-lt, drop-set-add}
use lib.Seq.{drop-set-lt, set_out}
use Rattle.window.specs.Fields.{unset, window_of}
use Rattle.monitor.specs.Fields.{with_active_window}
use Rattle.logpage.specs.declared.fields.Settings.{Settings}
use Rattle.rules.specs.declared.commands.Command.{Command}
use Rattle.monitor.specs.declared.record.Monitor.{Monitor}
use Rattle.rules.specs.Commands.{kind_of, reaches, reaches_a, highest, bucket_of}
use Rattle.rules.specs.Commands.{counter_at, counter_of, is_below_a, below_a_of, milliseconds_of}
use Rattle.rules.specs.Counting.{bit, held, once_more, once_more_at, loads, counted_in}
use Rattle.monitor.specs.Record.{after_completion, loads_at, triggers_at}
use Rattle.rules.specs.Refusals.{unordered}
use Rattle.rules.specs.Timer.{in_window}
use Rattle.batch.specs.declared.parts.Active.{Active}
use Rattle.batch.specs.declared.parts.Stamped.{Stamped}
use Rattle.std.proofs.lemmas.Option.{cond_some, none-some, same_Some}
use Rattle.batch.specs.Tally.{bucket_place, kind_place, count_place, held_all, counter_at_place, bound_for, counter_bound}
use Rattle.batch.specs.Tally.{AtMost, bound_at, Bounds, at_most_loads, stamp_at, stamped_by, with_active}
use Rattle.batch.specs.Tally.{one_more_at, with_counts, stamped_in, completed_by, Apart}
use Rattle.batch.specs.Claims.{CountsAlone, Stamps, StampsAlone, BoundsFollow, CompletesApart}
use Rattle.batch.proofs.tally.Laws.{bucket_place_few, kindless-place, held_at, held-set, has-counter}
use Rattle.rules.proofs.commands.Laws.{Becomes, slow, fast, kindless, disabled, becomes}
use Rattle.rules.proofs.commands.Laws.{below-latency-above}

-- counts that are at most so many, after another at a place
pub at-most-set :
    {top top' : ℕ} (counts : List ℕ) (place v : ℕ) →
    AtMost top counts →
    top ≤ top' →
    v ≤ top' →
    AtMost top' (set counts place v)
at-most-set {top' = top'} counts place v before more few p = by (eqb p place) refl (ltb place (length counts)) refl
  where
    by :
        (t : Bool) →
        eqb p place ≡ t →
        (u : Bool) →
        ltb place (length counts) ≡ u →
        get_or (set counts place v) p 0 ≤ top'
    by true e true h =
        let same : p ≡ place = eqb-true p place e in
        rw (same, get_or-set_same counts place v 0 (ltb-true place (length counts) h)) few
    by true e false h =
        rw (set_out counts place v (ltb-false place (length counts) h)) (omega (arith, before p))
    by false e u h = rw (get_or-set_other counts place p v 0 (eqb-false p place e)) (omega (arith, before p))

neither : (a b : Bool) → (a || b) ≡ false → (a ≡ false) × (b ≡ false)
neither false b h = (refl, h)
neither true b h = absurd (true≢false h)

-- a latency that does not reach a threshold reaches no higher one
reaches-no-higher : (us low high : ℕ) → ltb high low ≡ false → reaches us low ≡ false → reaches us high ≡ false
reaches-no-higher us low high order h =
    lt-leb (5000 * (high + 1)) us (omega (arith, ltb-false high low order, leb-false (5000 * (low + 1)) us h))

-- so below threshold A there is no bucket, with thresholds in order
below-a-bucket :
    (thresholds : List ℕ) (c : Command) →
    unordered thresholds ≡ false →
    reaches_a thresholds c ≡ false →
    bucket_of thresholds c ≡ None
unfolding bucket_of highest
below-a-bucket thresholds c in_order a =
    let first = neither (ltb (get_or thresholds 1 0) (get_or thresholds 0 0)) _ in_order in
    let rest = neither (ltb (get_or thresholds 2 0) (get_or thresholds 1 0)) _ first.1 in
    let not-b = reaches-no-higher c.latency (get_or thresholds 0 0) (get_or thresholds 1 0) first.0 a in
    let not-c = reaches-no-higher c.latency (get_or thresholds 1 0) (get_or thresholds 2 0) rest.0 not-b in
    let not-d = reaches-no-higher c.latency (get_or thresholds 2 0) (get_or thresholds 3 0) rest.1 not-c in
    rw (not-d, not-c, not-b, a)

-- the bucket of a counter
bucket-is :
    (s : Settings) (c : Command) (b k : ℕ) →
    s.enabled ≡ true →
    kind_of c ≡ Some k →
    counter_of s c ≡ Some (3 * b + k) →
    bucket_of s.thresholds c ≡ Some b
unfolding counter_of
bucket-is s c b k on kind e = by (reaches_a s.thresholds c) (bucket_of s.thresholds c) (rw (on, kind) at e)
  where
    by : (a : Bool) (o : Option ℕ) → cond a (counter_at o (Some k)) None ≡ Some (3 * b + k) → o ≡ Some b
    by false o e = let never : ◌≡◌ {A = ℕ} 0 1 = cc in absurd (omega arith)
    by true None e = let never : ◌≡◌ {A = ℕ} 0 1 = cc in absurd (omega arith)
    by true (Some x) e =
        let same : 3 * x + k ≡ 3 * b + k = cc in
        let bucket : x ≡ b = omega arith in
        rw bucket

below-is : (s : Settings) (c : Command) → is_below_a s c ≡ true → reaches_a s.thresholds c ≡ false
unfolding is_below_a
below-is s c e = by (reaches_a s.thresholds c) refl
  where
    by : (a : Bool) → reaches_a s.thresholds c ≡ a → a ≡ false
    by false h = refl
    by true h = absurd (true≢false (sym (rw h at e)))

-- a command of a kind, while enabled
kind-place-is :
    (s : Settings) (c : Command) (k : ℕ) → s.enabled ≡ true → kind_of c ≡ Some k → kind_place s.enabled c ≡ k
unfolding kind_place
kind-place-is s c k on kind = rw (on, kind)

disabled-place : (enabled : Bool) (c : Command) → enabled ≡ false → kind_place enabled c ≡ 15
unfolding kind_place
disabled-place enabled c off = rw off

-- a latency below the bound of counter n: the stamp is not loaded, and no debug log is taken
module _ (m : Monitor) (c : Command) (n : ℕ) (below : c.latency < counter_bound m n) where
  -- neither is the debug log triggered, nor the stamp unset, nor in mode largest the latency larger
  below-bound : (loads_at m n (milliseconds_of c) ≡ false) × (triggers_at m n ≡ false)
  unfolding bound_for loads
  below-bound =
      by (triggers_at m n) refl (eqb (get_or m.active_window.stamps n 0) unset) refl (bit m.settings.mode n) refl
    where
      by :
          (takes : Bool) →
          triggers_at m n ≡ takes →
          (empty : Bool) →
          eqb (get_or m.active_window.stamps n 0) unset ≡ empty →
          (largest : Bool) →
          bit m.settings.mode n ≡ largest →
          (loads_at m n (milliseconds_of c) ≡ false) × (triggers_at m n ≡ false)
      by true t empty e largest l = absurd (omega (arith, rw t at below))
      by false t true e largest l = absurd (omega (arith, rw (t, e) at below))
      by false t false e false l = (rw (e, l), t)
      by false t false e true l =
          let latency = get_or m.active_window.latencies n 0 in
          let bound = rw (t, e, l) at below in
          (rw (e, l, le-ltb latency (milliseconds_of c) (below-latency-above c latency bound)), t)

-- the parts of the counts, after one more
at_place : (t : List ℕ) (size n : ℕ) → n < size → take size (once_more_at t n) ≡ once_more_at (take size t) n
at_place t size n h = rw (get_or-take size t n 0 h) (take-set-lt size t n (once_more (get_or t n 0)) h)

module _ (t : List ℕ) where
  abbrev below_a : List ℕ → List ℕ
  below_a counts = take 3 (drop 12 counts)

  at-kind : (k : ℕ) → k < 3 → below_a (once_more_at t (12 + k)) ≡ once_more_at (below_a t) k
  at-kind k h =
      let there = get_or-drop 12 t k 0 in
      ap (take 3) (drop-set-add 12 t k (once_more (get_or t (12 + k) 0))) ∙
      rw there at (at_place (drop 12 t) 3 k h)

  past-kinds : (p v : ℕ) → 15 ≤ p → below_a (set t p v) ≡ below_a t
  past-kinds p v h =
      let at : p ≡ 12 + (p - 12) = omega arith in
      ap (λ (x : ℕ). below_a (set t x v)) at ∙
      (ap (take 3) (drop-set-add 12 t (p - 12) v) ∙ take-set-le 3 (drop 12 t) (p - 12) v (omega arith))

-- where a completion counts, by its place
data Placed (s : Settings) (c : Command) (p : ℕ) : Type 0 where
  for-counter : p < 12 → counter_of s c ≡ Some p → Placed s c p
  below : (k : ℕ) → k < 3 → p ≡ 12 + k → counter_of s c ≡ None → below_a_of s c ≡ Some k → Placed s c p
  nowhere : 15 ≤ p → counter_of s c ≡ None → below_a_of s c ≡ None → Placed s c p

placed :
    (s : Settings) (c : Command) (p : ℕ) →
    p ≡ count_place s c →
    (p < 15 → unordered s.thresholds ≡ false) →
    Placed s c p
placed s c p place in_order = by (becomes s c)
  where
    past : kind_place s.enabled c ≡ 15 → 15 ≤ p
    past e = omega arith

    by : Becomes s c → Placed s c p
    by (slow k b few low on kind past-a counter) =
        let added = kind-place-is s c k on kind in
        let bucket = ap bucket_place (bucket-is s c b k on kind counter) in
        let same : 3 * b + k ≡ p = omega (arith, added, bucket) in
        for-counter (omega arith) (rw same at counter)
    by (fast k few on kind is counter e) =
        let added = kind-place-is s c k on kind in
        let less : p < 15 = omega (arith, added, bucket_place_few s.thresholds c) in
        let bucket = ap bucket_place (below-a-bucket s.thresholds c (in_order less) (below-is s c is)) in
        below k few (omega (arith, added, bucket)) counter e
    by (kindless kind counter e) = nowhere (past (kindless-place s.enabled c kind)) counter e
    by (disabled off counter e) = nowhere (past (disabled-place s.enabled c off)) counter e

held_more : (counts : List ℕ) (p : ℕ) → held_all (one_more_at counts p) ≡ once_more_at (held_all counts) p
held_more counts p =
    let same : held (get_or counts p 0 + 1) ≡ held (held (get_or counts p 0) + 1) = omega arith in
    held-set counts p (get_or counts p 0 + 1) ∙ rw (held_at counts p) (ap (set (held_all counts) p) same)

-- what a completion leaves that is below the bound of its place: one more there
module _
    (m : Monitor)
    (a : Active)
    (c : Command)
    (p : ℕ)
    (place : p ≡ count_place m.settings c)
    (lower : p < 15 → c.latency < bound_at (with_active m a) p)
  where
    in_order : p < 15 → unordered m.settings.thresholds ≡ false
    unfolding bound_at
    in_order h = by (unordered m.settings.thresholds) refl
      where
        by : (out : Bool) → unordered m.settings.thresholds ≡ out → out ≡ false
        by false e = refl
        by true e = absurd (omega (arith, rw e at (lower h)))

    counted-alone : with_active m (with_counts a (one_more_at a.counts p)) ≡ after_completion (with_active m a) c
    unfolding after_completion counted_in bound_at
    counted-alone = by (placed m.settings c p place in_order)
      where
        by :
            Placed m.settings c p →
            with_active m (with_counts a (one_more_at a.counts p)) ≡ after_completion (with_active m a) c
        by (for-counter few counter) =
            let t = held_all a.counts in
            let less : p < 15 = omega arith in
            let bound = rw (in_order less, lt-ltb p 12 few) at (lower less) in
            let only = below-bound (with_active m a) c p bound in
            rw (
              counter,
              only.0,
              only.1,
              held_more a.counts p,
              at_place t 12 p few,
              drop-set-lt 12 t p (once_more (get_or t p 0)) few,
            )
        by (below k few at counter e) =
            let t = held_all a.counts in
            rw (
              at,
              counter,
              e,
              held_more a.counts (12 + k),
              at-kind t k few,
              take-set-le 12 t (12 + k) (once_more (get_or t (12 + k) 0)) (omega arith),
            )
        by (nowhere h counter e) =
            let t = held_all a.counts in
            let v = once_more (get_or t p 0) in
            rw (counter, e, held_more a.counts p, past-kinds t p v h, take-set-le 12 t p v (omega arith))

-- a place that is written, or written as it was
set-or-keep :
    {A : Type 0} (t : Bool) (l : List A) (n : ℕ) (v d : A) →
    set l n (cond t v (get_or l n d)) ≡ cond t (set l n v) l
set-or-keep true l n v d = refl
set-or-keep false l n v d = set-get_or l n d

-- what a completion leaves that has a counter and takes no debug log
module _
    (m : Monitor)
    (a : Active)
    (c : Command)
    (p n : ℕ)
    (l : Stamped)
    (place : p ≡ count_place m.settings c)
    (number : n ≡ counter_at_place p)
    (is : stamped_by m p c (stamp_at a n) ≡ Some l)
  where
    can-load : at_most_loads m p ≡ true
    unfolding stamped_by
    can-load = (cond_some (at_most_loads m p) _ _ is).0

    its-counter : n ≡ p
    its-counter = rw (lt-ltb p 12 (has-counter m p can-load).0) at number

    -- whether it loads the stamp
    abbrev load : Bool
    load = loads_at (with_active m a) p (milliseconds_of c)

    its-stamp :
        l.stamp ≡
        cond load
        (record { stamp = m.clock; latency = milliseconds_of c; units = m.host_set; loaded = in_window m.timer m.partial })
        (stamp_at a p)
    unfolding stamped_by
    its-stamp = let e = rw (can-load, its-counter) at is in cc

    its-bound : l.bound ≡ bound_for m p l.stamp.stamp l.stamp.latency
    unfolding stamped_by
    its-bound = let e = rw (can-load, its-counter) at is in cc

    stamped-alone : with_active m (stamped_in a p n l) ≡ after_completion (with_active m a) c
    unfolding after_completion counted_in
    stamped-alone = by (placed m.settings c p place (λ less. (has-counter m p can-load).1))
      where
        by : Placed m.settings c p → with_active m (stamped_in a p n l) ≡ after_completion (with_active m a) c
        by (below k few at counter e) = absurd (omega (arith, (has-counter m p can-load).0))
        by (nowhere h counter e) = absurd (omega (arith, (has-counter m p can-load).0))
        by (for-counter few counter) =
            let t = held_all a.counts in
            rw (
              its-counter,
              counter,
              (has-counter m p can-load).2,
              held_more a.counts p,
              at_place t 12 p few,
              drop-set-lt 12 t p (once_more (get_or t p 0)) few,
            ) (either load refl)
          where
            either :
                (t : Bool) →
                load ≡ t →
                with_active_window m
                (window_of (once_more_at (take 12 (held_all a.counts)) p) (set a.stamps p l.stamp.stamp) (set a.latencies p l.stamp.latency) (set a.units p l.stamp.units))
                (set a.loaded p l.stamp.loaded)
                (take 3 (drop 12 (held_all a.counts)))
                ≡ with_active_window m
                (counted_in load p m.clock (milliseconds_of c) m.host_set (window_of (take 12 (held_all a.counts)) a.stamps a.latencies a.units))
                (cond load (set a.loaded p (in_window m.timer m.partial)) a.loaded)
                (take 3 (drop 12 (held_all a.counts)))
            either true e = rw (its-stamp, e)
            either false e = rw (its-stamp, e, set-get_or a.stamps p 0, set-get_or a.latencies p 0, set-get_or a.units p false, set-get_or a.loaded p 0)

    -- the bounds follow
    stamped-bounds :
        Bounds (with_active m a) a.bounds →
        length a.bounds ≡ 28 →
        length a.stamps ≡ 12 →
        length a.latencies ≡ 12 →
        Bounds (with_active m (stamped_in a p n l)) (set a.bounds p l.bound)
    unfolding bound_at bound_for
    stamped-bounds before all twelve as_many q h = by (eqb q p) refl
      where
        few : p < 12
        few = (has-counter m p can-load).0

        elsewhere : (q ≡ p → ⊥) → bound_at (with_active m a) q ≡ bound_at (with_active m (stamped_in a p n l)) q
        elsewhere other =
            rw (
              its-counter,
              get_or-set_other a.stamps p q l.stamp.stamp 0 other,
              get_or-set_other a.latencies p q l.stamp.latency 0 other,
            )

        by : (t : Bool) → eqb q p ≡ t → get_or (set a.bounds p l.bound) q 0 ≡ bound_at (with_active m (stamped_in a p n l)) q
        by true e =
            let same : q ≡ p = eqb-true q p e in
            rw (
              same,
              its-counter,
              get_or-set_same a.bounds p l.bound 0 (omega (arith, few)),
              (has-counter m p can-load).1,
              lt-ltb p 12 few,
              get_or-set_same a.stamps p l.stamp.stamp 0 (omega (arith, few)),
              get_or-set_same a.latencies p l.stamp.latency 0 (omega (arith, few)),
            )
            its-bound
        by false e =
            let other = eqb-false q p e in
            get_or-set_other a.bounds p q l.bound 0 other ∙ (before q h ∙ elsewhere other)

pub counts_alone : CountsAlone
counts_alone = counted-alone

pub stamps-alone : StampsAlone
stamps-alone m a c p n l s = stamped-alone m a c p n l s.0 s.1 s.2

pub bounds-follow : BoundsFollow
bounds-follow m a c p n l s = stamped-bounds m a c p n l s.0 s.1 s.2

-- both together, of an active window that is kept apart
module _ (m : Monitor) (a next : Active) (c : Command) (apart : Apart m a) where
  abbrev place : ℕ
  place = count_place m.settings c

  abbrev Follows : Active → Type 0
  Follows next = (with_active m next ≡ after_completion (with_active m a) c) × Apart m next

  counted : ltb c.latency (get_or a.bounds place 0) ≡ true → Follows (with_counts a (one_more_at a.counts place))
  unfolding bound_at bound_for
  counted lower =
      let below : place < 15 → c.latency < bound_at (with_active m a) place =
      λ h. rw (apart.bounds place h) at (ltb-true _ _ lower)
      in (
        counts_alone m a c place refl below,
        record { bounds = apart.bounds; places = apart.places; stamps = apart.stamps; latencies = apart.latencies },
      )

  loaded : (n : ℕ) (l : Stamped) → Stamps m a c place n l → Follows (stamped_in a place n l)
  loaded n l stamps = (
    stamps-alone m a c place n l stamps,
    record {
      bounds = bounds-follow m a c place n l stamps apart.bounds apart.places apart.stamps apart.latencies;
      places = length-set a.bounds place l.bound ∙ apart.places;
      stamps = length-set a.stamps n l.stamp.stamp ∙ apart.stamps;
      latencies = length-set a.latencies n l.stamp.latency ∙ apart.latencies;
    },
  )

  completes : completed_by m a place c ≡ Some next → Follows next
  unfolding completed_by
  completes is = by (ltb c.latency (get_or a.bounds place 0)) refl
    where
      n : ℕ
      n = counter_at_place place

      stamped : (o : Option Stamped) → stamped_by m place c (stamp_at a n) ≡ o → option_map (stamped_in a place n) o ≡ Some next → Follows next
      stamped None e same = absurd (none-some next same)
      stamped (Some l) e same = rw (← same_Some _ _ same) (loaded n l (refl, refl, e))

      by : (t : Bool) → ltb c.latency (get_or a.bounds place 0) ≡ t → Follows next
      by true e = rw (← same_Some _ _ (rw e at is)) (counted e)
      by false e = stamped _ refl (rw e at is)

pub completes-apart : CompletesApart
completes-apart m a next c apart is = completes m a next c apart is

-- a count more
pub room-for-more :
    (m : Monitor) (a next : Active) (place top : ℕ) (c : Command) →
    completed_by m a place c ≡ Some next →
    AtMost top a.counts →
    AtMost (top + 1) next.counts
unfolding completed_by
room-for-more m a next place top c is few =
    by (ltb c.latency (get_or a.bounds place 0)) refl
  where
    one : AtMost (top + 1) (one_more_at a.counts place)
    one = at-most-set a.counts place (get_or a.counts place 0 + 1) few (omega arith) (omega (arith, few place))

    stamps :
        (o : Option Stamped) →
        option_map (stamped_in a place (counter_at_place place)) o ≡ Some next →
        AtMost (top + 1) next.counts
    stamps None e = absurd (none-some next e)
    stamps (Some l) e = rw (← same_Some _ _ e) one

    by : (t : Bool) → ltb c.latency (get_or a.bounds place 0) ≡ t → AtMost (top + 1) next.counts
    by true e = rw (← same_Some _ _ (rw e at is)) one
    by false e = stamps _ (rw e at is)
