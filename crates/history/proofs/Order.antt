-- Completions in any order: each is one more for its counter and the larger of two latencies, so that two neighbours
-- may be exchanged.
use Prim.Native.Nat.{ℕ, zero, suc, ◌*◌, ◌≤◌, ◌<◌, max}
use mathlib.Core.Path.{◌≡◌, refl, sym, ap, ◌∙◌}
use mathlib.Core.Bool.{Bool, true, false, cond, true≢false, ◌||◌, and-true, Bool-set}
use mathlib.Core.HLevel.{Σ_set}
use mathlib.Core.List.Perm
use mathlib.Core.List.{List, [], ◌∷◌, foldr, is_set}
use mathlib.Core.Logic.{◌≢◌}
use Rattle.std.specs.Prelude.{Option, None, Some}
use native.Mathlib.Nat.{ℕ_set}
use native.Mathlib.Decide.{ℕ_discrete, dec_lt, dec_le}
use native.Mathlib.Omega.{arith}
use ghost.Sets.{retract_set}
use lib.Dec.{eqb, ltb}
use lib.ListN.{length, get_or, set}
use lib.Seq.{get_or-set_same, get_or-set_other, set-set, set_comm, set_out}
use borrow.Author.Tests.{ne_eqb, lt-ltb, le-leb, ltb-true, ltb-false}
use Rattle.logpage.specs.Fields.{no_debug_log}
use Rattle.window.specs.Fields.{unset}
use Rattle.window.specs.declared.fields.Window.{Window}
use Rattle.rules.specs.declared.commands.Command.{Command}
use Rattle.monitor.specs.declared.record.Monitor.{Monitor}
use Rattle.history.specs.Claims.{record_of}
use Rattle.rules.specs.Commands.{counter_of, below_a_of, milliseconds_of}
use Rattle.rules.specs.Counting.{once_more, once_more_at, counted_below_a, larger, waited, loads, counted_in}
use Rattle.monitor.specs.Calls.{Call, settings, completion, elapsed, clock, power_up, page, settings_back}
use Rattle.monitor.specs.Calls.{below_a, after, play_from}
use Rattle.history.specs.Effects.{past_of}
use Rattle.history.specs.Order.{LargestWithoutMinimum, after_completions, without_debug_log, InAnyOrder}
use Rattle.history.specs.Order.{InAnyOrderAfterHistory, DebugLogLeftOut}
use Rattle.monitor.specs.Fields.{with_active_window, with_debug_log}
use Rattle.monitor.specs.Record.{untouched_if, after_settings, after_completion}
use Rattle.monitor.specs.Record.{after_elapsed, after_clock, after_power_up, since_load, loads_at}
use Rattle.rules.specs.Refusals.{settings_refusal, elapsed_refusal, clock_refusal}
use Rattle.rules.specs.Timer.{in_window}
use Rattle.rules.proofs.commands.Laws.{counter-below}
use Rattle.history.proofs.Facts.{clock-top}
use Rattle.history.proofs.Play.{played-as-facts}

-- a store that may be left out
abbrev store : {A : Type 0} → Bool → List A → ℕ → A → List A
store load l n v = cond load (set l n v) l

module _ {A : Type 0} (l : List A) where
  -- two at different places may be exchanged
  apart : (s t : Bool) (n k : ℕ) (v w : A) → n ≢ k → store t (store s l n v) k w ≡ store s (store t l k w) n v
  apart true true n k v w h = set_comm l n k v w h
  apart true false n k v w h = refl
  apart false t n k v w h = refl

  -- one is not seen at another place
  elsewhere : (s : Bool) (n k : ℕ) (v d : A) → k ≢ n → get_or (store s l n v) k d ≡ get_or l k d
  elsewhere true n k v d h = get_or-set_other l n k v d h
  elsewhere false n k v d h = refl

  -- the same may come twice
  again : (t : Bool) (n : ℕ) (v : A) → store t (set l n v) n v ≡ set l n v
  again true n v = set-set l n v v
  again false n v = refl

-- one more at each of two places, in either order
more-apart : (l : List ℕ) (n k : ℕ) → once_more_at (once_more_at l n) k ≡ once_more_at (once_more_at l k) n
more-apart l n k = by (ℕ_discrete n k)
  where
    by : Dec (n ≡ k) → once_more_at (once_more_at l n) k ≡ once_more_at (once_more_at l k) n
    by (yes e) = rw e
    by (no h) =
        let a : ℕ = once_more (get_or l n 0) in
        let b : ℕ = once_more (get_or l k 0) in
        rw (get_or-set_other l n k a 0 (λ e. h (sym e)), get_or-set_other l k n b 0 h) (set_comm l n k a b h)

-- a stored clock is no unset stamp
stamped : (l : List ℕ) (n stamp : ℕ) → stamp < unset → eqb (get_or (set l n stamp) n 0) unset ≡ false
stamped [] n stamp h = refl
stamped (x ∷ xs) zero stamp h = ne_eqb stamp unset (λ e. omega arith)
stamped (x ∷ xs) (suc n) stamp h = stamped xs n stamp h

-- b over a, if it is larger than what stands there, is the larger of the two
over : (l : List ℕ) (n a b : ℕ) → store (ltb (get_or (set l n a) n 0) b) (set l n a) n b ≡ set l n (max a b)
over l n a b = by (dec_lt n (length l))
  where
    inside : (t : Bool) → ltb a b ≡ t → store t (set l n a) n b ≡ set l n (max a b)
    inside true e =
        let is : b ≡ max a b = omega (arith, ltb-true a b e) in
        set-set l n a b ∙ ap (set l n) is
    inside false e =
        let is : a ≡ max a b = omega (arith, ltb-false a b e) in
        ap (set l n) is

    outside : length l ≤ n → (t : Bool) → store t l n b ≡ l
    outside h true = set_out l n b h
    outside h false = refl

    by : Dec (n < length l) → store (ltb (get_or (set l n a) n 0) b) (set l n a) n b ≡ set l n (max a b)
    by (yes h) = rw (get_or-set_same l n a 0 h) (inside (ltb a b) refl)
    by (no h) =
        let end : length l ≤ n = omega arith in
        rw (set_out l n a end, set_out l n (max a b) end) (outside end (ltb (get_or l n 0) b))

-- what completions change of a record, but for the debug log
record Tally : Type 0 where
  window : Window
  loaded : List ℕ
  below_a : List ℕ
  deriving IsSet as Tally-set'

-- `Perm` says that there is a way to rearrange, and not which; so the library's law asks that two tallies are equal in
-- one way at most
window-set : IsSet Window
window-set =
    retract_set (λ w. (w.counters, (w.stamps, (w.latencies, w.units))))
    (λ l. record { counters = l.0; stamps = l.1.0; latencies = l.1.1.0; units = l.1.1.1 })
    (λ w. refl)
    (Σ_set lists (λ _. Σ_set lists (λ _. Σ_set lists (λ _. is_set Bool-set))))
  where
    lists : IsSet (List ℕ)
    lists = is_set ℕ_set

tally-set : IsSet Tally
tally-set = Tally-set' window-set (is_set ℕ_set)

-- whether so many ms load counter n's stamp: it is unset, or fewer were measured
abbrev loads-over : Window → ℕ → ℕ → Bool
loads-over w n ms = eqb (get_or w.stamps n 0) unset || larger (get_or w.latencies n 0) ms

-- if so many ms do, more do
grows : (w : Window) (n a b : ℕ) → a ≤ b → loads-over w n a ≡ true → loads-over w n b ≡ true
grows w n a b h e = by (eqb (get_or w.stamps n 0) unset) refl
  where
    by : (t : Bool) → eqb (get_or w.stamps n 0) unset ≡ t → loads-over w n b ≡ true
    by true is = rw is
    by false is =
        let measured : ℕ = get_or w.latencies n 0 in
        rw (is, lt-ltb measured b (omega (arith, ltb-true measured a (rw is at e))))

module _ (m : Monitor) where
  abbrev now : ℕ
  now = in_window m.timer m.partial

  -- a completion of so many ms for counter n, with a load or without
  abbrev counted : Bool → ℕ → ℕ → Tally → Tally
  counted load n ms x =
      record {
        window = counted_in load n m.clock ms m.host_set x.window;
        loaded = store load x.loaded n now;
        below_a = x.below_a;
      }

  abbrev counted-at : ℕ → ℕ → Tally → Tally
  counted-at n ms x = counted (loads-over x.window n ms) n ms x

  -- a completion, by its counter; without one, by its kind below threshold A
  abbrev tallied : Option ℕ → Option ℕ → ℕ → Tally → Tally
  tallied (Some n) kind ms x = counted-at n ms x
  tallied None kind ms x =
      record { window = x.window; loaded = x.loaded; below_a = counted_below_a kind x.below_a }

  abbrev tally : Command → Tally → Tally
  tally c x = tallied (counter_of m.settings c) (below_a_of m.settings c) (milliseconds_of c) x

  -- two for different counters may be exchanged
  two-apart :
      (n k a b : ℕ) (x : Tally) →
      n ≢ k →
      counted-at k b (counted-at n a x) ≡ counted-at n a (counted-at k b x)
  unfolding counted_in
  two-apart n k a b x h =
      let w : Window = x.window in
      let s : Bool = loads-over w n a in
      let t : Bool = loads-over w k b in
      let h' : k ≢ n = λ e. h (sym e) in
      rw (elsewhere w.stamps s n k m.clock 0 h', elsewhere w.latencies s n k a 0 h')
      (rw (elsewhere w.stamps t k n m.clock 0 h, elsewhere w.latencies t k n b 0 h)
      (rw (more-apart w.counters n k, apart w.stamps s t n k m.clock m.clock h)
      (rw (apart w.latencies s t n k a b h, apart w.units s t n k m.host_set m.host_set h)
      (rw (apart x.loaded s t n k now now h)))))

  module _ (below : m.clock < unset) where
    -- two for one counter are two more, and the larger of the two
    twice :
        (n a b : ℕ) (x : Tally) →
        counted-at n b (counted-at n a x) ≡ counted false n 0 (counted-at n (max a b) x)
    unfolding counted_in
    twice n a b x = by (loads-over w n a) refl (loads-over w n b) refl (dec_le a b)
      where
        w : Window
        w = x.window

        by :
            (s : Bool) →
            loads-over w n a ≡ s →
            (t : Bool) →
            loads-over w n b ≡ t →
            Dec (a ≤ b) →
            counted-at n b (counted-at n a x) ≡ counted false n 0 (counted-at n (max a b) x)
        by true e t f h =
            let larger-too : loads-over w n (max a b) ≡ true = grows w n a (max a b) (omega arith) e in
            let u : Bool = ltb (get_or (set w.latencies n a) n 0) b in
            rw (e, larger-too, stamped w.stamps n m.clock below)
            (rw (again w.stamps u n m.clock, over w.latencies n a b, again w.units u n m.host_set)
            (rw (again x.loaded u n now)))
        by false e t f (yes h) =
            let is_b : max a b ≡ b = omega arith in
            rw (e, is_b)
        by false e true f (no h) = absurd (true≢false (sym (grows w n b a (omega arith) f) ∙ e))
        by false e false f (no h) =
            let is-a : max a b ≡ a = omega arith in
            rw (is-a, e) (rw f)

    -- so two for any counters may be exchanged
    any-counters :
        (n k a b : ℕ) (x : Tally) →
        Dec (n ≡ k) →
        counted-at k b (counted-at n a x) ≡ counted-at n a (counted-at k b x)
    any-counters n k a b x (no h) = two-apart n k a b x h
    any-counters n k a b x (yes e) =
        let either : max a b ≡ max b a = omega arith in
        rw e (twice k a b x ∙ ap (λ ms. counted false k 0 (counted-at k ms x)) either ∙ sym (twice k b a x))

    -- and any two neighbours
    exchange : (c d : Command) (x : Tally) → tally c (tally d x) ≡ tally d (tally c x)
    exchange c d x =
        by (counter_of m.settings c) (counter_of m.settings d) (below_a_of m.settings c) (below_a_of m.settings d)
      where
        a : ℕ
        a = milliseconds_of c

        b : ℕ
        b = milliseconds_of d

        by : (p q j k : Option ℕ) → tallied p j a (tallied q k b x) ≡ tallied q k b (tallied p j a x)
        by (Some n) (Some i) j k = any-counters i n b a x (ℕ_discrete i n)
        by (Some n) None j k = refl
        by None (Some i) j k = refl
        by None None None k = refl
        by None None (Some j) None = refl
        by None None (Some j) (Some k) = rw (more-apart x.below_a k j)

-- a call that may be turned away, on a record with its debug log and without
either_way :
    (o : Option ℕ) (m r s : Monitor) →
    without_debug_log r ≡ without_debug_log s →
    without_debug_log (untouched_if o m r) ≡ without_debug_log (untouched_if o (without_debug_log m) s)
either_way None m r s e = e
either_way (Some n) m r s e = refl

one-call : (m : Monitor) (c : Call) → without_debug_log (after c m) ≡ without_debug_log (after c (without_debug_log m))
unfolding after_settings after_completion after_elapsed after_clock after_power_up
one-call m (settings s) = either_way (settings_refusal s) m _ _ refl
one-call m (completion c) = by (counter_of m.settings c) refl
  where
    by :
        (o : Option ℕ) →
        counter_of m.settings c ≡ o →
        without_debug_log (after_completion m c) ≡ without_debug_log (after_completion (without_debug_log m) c)
    by None e = rw e
    by (Some n) e = rw e
one-call m (elapsed ms) = either_way (elapsed_refusal ms) m _ _ refl
one-call m (clock value) = either_way (clock_refusal value) m _ _ refl
one-call m power_up = refl
one-call m (page n) = refl
one-call m (settings_back n) = refl
one-call m (below_a w) = refl

pub debug-log-left-out : DebugLogLeftOut
unfolding play_from
debug-log-left-out m [] = refl
debug-log-left-out m (c ∷ h) =
    one-call (play_from m h) c ∙
    ap (λ r. without_debug_log (after c r)) (debug-log-left-out m h) ∙
    sym (one-call (play_from (without_debug_log m) h) c)

module _ (m : Monitor) where
  -- the record with another tally, and its own
  abbrev with-tally : Tally → Monitor
  with-tally x = with_debug_log (with_active_window m x.window x.loaded x.below_a) no_debug_log

  abbrev own-tally : Tally
  own-tally = record { window = m.active_window; loaded = m.loaded; below_a = m.active_below_a }

  module _ (fine : LargestWithoutMinimum m.settings) where
    -- what the rule asks for, in mode largest without a minimum window
    load_is : (x : Tally) (n ms : ℕ) → n < 12 → loads_at (with-tally x) n ms ≡ loads-over x.window n ms
    unfolding loads
    load_is x n ms few =
        let since : ℕ = since_load (with-tally x) n in
        let minimum : ℕ = m.settings.minimum_window in
        let over-now : waited since minimum ≡ true = le-leb (100 * minimum) since (omega (arith, fine.no_minimum)) in
        rw (fine.largest n few, over-now, and-true (larger (get_or x.window.latencies n 0) ms))

    -- the call's own definition is the tally's
    one-tallied : (c : Command) (x : Tally) → without_debug_log (after_completion (with-tally x) c) ≡ with-tally (tally m c x)
    unfolding after_completion
    one-tallied c x = by (counter_of m.settings c) refl
      where
        by :
            (o : Option ℕ) →
            counter_of m.settings c ≡ o →
            without_debug_log (after_completion (with-tally x) c) ≡ with-tally (tally m c x)
        by None e = rw e
        by (Some n) e = rw (e, load_is x n (milliseconds_of c) (counter-below m.settings c n e))

    all-tallied : (cs : List Command) → without_debug_log (after_completions m cs) ≡ with-tally (foldr (tally m) own-tally cs)
    unfolding play_from
    all-tallied [] = refl
    all-tallied (c ∷ cs) =
        one-call (after_completions m cs) (completion c) ∙
        ap (λ r. without_debug_log (after_completion r c)) (all-tallied cs) ∙
        one-tallied c (foldr (tally m) own-tally cs)

pub in-any-order : InAnyOrder
in-any-order m cs ds fine below order =
    all-tallied m fine cs ∙
    ap (with-tally m) (Perm.foldr-eq tally-set (tally m) (exchange m (omega (arith, below))) order (own-tally m)) ∙
    sym (all-tallied m fine ds)

pub in-any-order-after-history : InAnyOrderAfterHistory
unfolding record_of
in-any-order-after-history h cs ds fine order =
    rw (played-as-facts h)
    (in-any-order (record_of (past_of h)) cs ds fine (omega (arith, clock-top (past_of h))) order)
