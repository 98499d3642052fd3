-- Elapsed time makes of the record that the facts describe the one that they describe after it.
use Prim.Native.Nat.{ℕ, suc, ◌+◌, ◌*◌, ◌-◌, ◌/◌, ◌%◌, ◌≤◌, ◌<◌}
use mathlib.Core.Path.{◌≡◌, refl, sym, ap, ◌∙◌}
use mathlib.Core.Bool.{Bool, true, false, cond, ◌&&◌}
use mathlib.Core.List.{List, [], ◌∷◌}
use native.Mathlib.Numerals.{add-one}
use native.Mathlib.Omega.{arith}
use lib.Dec.{eqb, leb, eqb-suc-suc, ltb}
use lib.ListN.{replicate}
use borrow.Author.Tests.{ne_eqb, lt-ltb, le-ltb, le-leb, lt-leb, leb-true, leb-false}
use Rattle.window.specs.Fields.{empty_window, from, each}
use Rattle.monitor.specs.declared.record.Monitor.{Monitor}
use Rattle.monitor.specs.declared.windows.WindowChoice.TheVariants.{Active}
use Rattle.rules.specs.declared.timer.Tick.{Tick}
use Rattle.history.specs.Claims.{loaded_of, record_of}
use Rattle.history.specs.Facts.{in_force, sum, clock_at, host_set_at, timer_threshold_of, enabled_time, window_at, timer_at}
use Rattle.history.specs.Facts.{Counted, counted_since, since_enabled, filter, active, static}
use Rattle.history.specs.Facts.{count_of, last_load, stamp_of, latency_of, units_of, window_from, debug_at}
use Rattle.history.specs.Facts.{is_fast, of_kind_below_a, below_a_counts}
use Rattle.history.specs.Effects.{passed, Past, latest, since}
use Rattle.rules.specs.Answers.{ended}
use Rattle.monitor.specs.Fields.{with_clock, with_timer, with_active_window, with_static_window}
use Rattle.monitor.specs.Record.{no_loads, none_below_a, after_elapsed, elapsed_answer}
use Rattle.rules.specs.Timer.{grown, tick, ticked}
use Rattle.monitor.proofs.Laws.{moved, elapsed-accepted}
use Rattle.history.proofs.Facts.{Good, Fine, FineAt, fine, fine-counted, span, enabled-threshold}
use Rattle.history.proofs.Facts.{enabled-positive, within, preceding, fast-within, fast-preceding, described}
use Rattle.history.proofs.Lists.{none_pass}
use Rattle.history.proofs.Windows.{none-taken, none-partial, none-window, one-taken, one-partial}
use Rattle.history.proofs.Windows.{goes_on, ends, ends-timer, one_more}

-- the facts after time that brought the time while enabled to t
abbrev after-time : Past → ℕ → ℕ → Monitor
after-time past ms t =
    described (in_force past) (t / 300000 - t / span past * timer_threshold_of past) (host_set_at past) (t % 300000)
    (grown (clock_at past) ms)
    (debug_at past) (t / span past) (since_enabled past)

time-after :
    (past : Past) (ms : ℕ) (b : Bool) →
    (in_force past).enabled ≡ b →
    enabled_time (passed ms ∷ past) ≡ cond b (enabled_time past + ms) (enabled_time past)
unfolding enabled_time since sum
time-after past ms true e = rw e
time-after past ms false e = rw e

clock-after : (past : Past) (ms : ℕ) → clock_at (passed ms ∷ past) ≡ grown (clock_at past) ms
unfolding clock_at latest since sum
clock-after past ms = omega arith

facts-after : (past : Past) (ms : ℕ) → record_of (passed ms ∷ past) ≡ after-time past ms (enabled_time (passed ms ∷ past))
unfolding record_of in_force host_set_at timer_at window_at timer_threshold_of active static below_a_counts of_kind_below_a debug_at latest since
facts-after past ms =
    ap (λ n. described (in_force past) (timer_at (passed ms ∷ past)) (host_set_at past)
    (enabled_time (passed ms ∷ past) % 300000) n (debug_at past) (window_at (passed ms ∷ past)) (since_enabled past))
    (clock-after past ms)

-- no place is in the next window
late : (past place : Past) → Fine past place → eqb (window_at place) (suc (window_at past)) ≡ false
late past place h = ne_eqb (window_at place) (suc (window_at past)) (λ e. omega (arith, h.early))

-- what a window's end makes of what is asked of each counter's completions
module _ (past : Past) (g : Good past) {A : Type 0} (f : List Counted → A) where
  emptied : replicate 12 (f []) ≡ each (λ k. f (filter (within (suc (window_at past)) k) (counted_since past)))
  emptied =
      none_pass 12 (within (suc (window_at past))) _ (λ k x h. rw (late past x.before h)) _ (fine-counted past g) f

-- the active window's places are in the one before the next
before-next :
    (past place : Past) →
    eqb (window_at place) (window_at past) ≡ eqb (window_at place + 1) (suc (window_at past))
before-next past place = rw (add-one (window_at place), eqb-suc-suc (window_at place) (window_at past))

handed-on : (past : Past) (k : ℕ) → active past k ≡ filter (preceding (suc (window_at past)) k) (counted_since past)
unfolding active
handed-on past k = λ i. filter (λ x. before-next past x.before i && eqb x.counter k) (counted_since past)

empty-handed :
    (past : Past) →
    Good past →
    empty_window ≡ window_from (λ k. filter (within (suc (window_at past)) k) (counted_since past))
unfolding empty_window count_of last_load
empty-handed past g =
    λ i. record {
      counters = emptied past g count_of i;
      stamps = emptied past g (λ xs. stamp_of (last_load xs)) i;
      latencies = emptied past g (λ xs. latency_of (last_load xs)) i;
      units = emptied past g (λ xs. units_of (last_load xs)) i;
    }

no-loads :
    (past : Past) →
    Good past →
    no_loads ≡ each (λ k. loaded_of (last_load (filter (within (suc (window_at past)) k) (counted_since past))))
unfolding last_load
no-loads past g = emptied past g (λ xs. loaded_of (last_load xs))

-- and of the counts below threshold A
fast-emptied :
    (past : Past) →
    Good past →
    none_below_a ≡ from 0 3 (λ k. count_of (filter (fast-within (suc (window_at past)) k) (since_enabled past)))
unfolding count_of
fast-emptied past g =
    none_pass 3 (fast-within (suc (window_at past))) (FineAt past) (λ k x h. rw (late past x.before h))
    (since_enabled past) (fine past g) count_of

fast-handed-on :
    (past : Past) (k : ℕ) →
    of_kind_below_a Active past k ≡ filter (fast-preceding (suc (window_at past)) k) (since_enabled past)
unfolding of_kind_below_a
fast-handed-on past k =
    λ i. filter (λ x. (before-next past x.before i && eqb x.kind k) && is_fast x) (since_enabled past)

-- the timer's cases
module _ (threshold timer partial ms : ℕ) where
  tick-off : tick timer partial false ≡ ticked false threshold timer partial ms
  unfolding ticked
  tick-off = refl

  tick-few : partial + ms < 300000 → tick timer (partial + ms) false ≡ ticked true threshold timer partial ms
  unfolding ticked
  tick-few few = rw (lt-ltb _ _ few)

  module _ (many : 300000 ≤ partial + ms) where
    tick-more :
        timer + 1 < threshold →
        tick (timer + 1) (partial + ms - 300000) false ≡ ticked true threshold timer partial ms
    unfolding ticked
    tick-more less = rw (le-ltb _ _ many, lt-leb _ _ less)

    tick-end : threshold ≤ timer + 1 → tick 0 (partial + ms - 300000) true ≡ ticked true threshold timer partial ms
    unfolding ticked
    tick-end reached = rw (le-ltb _ _ many, le-leb _ _ reached)

module _ (past : Past) (g : Good past) (ms : ℕ) (fits : ms ≤ 300000) where
  abbrev t : ℕ
  t = enabled_time past

  abbrev p : ℕ
  p = timer_threshold_of past

  -- the record that elapsed time leaves, and its answer, once the time while enabled is u
  abbrev Comes : ℕ → Type 0
  Comes u =
      (after_elapsed (record_of past) ms ≡ after-time past ms u)
      × (elapsed_answer (record_of past) ms ≡ ended (ltb (window_at past) (u / span past)))

  -- the record's own step, once the timer's is known
  comes :
      (u : ℕ) (next : Tick) (expired : Bool) →
      next ≡ ticked (in_force past).enabled (in_force past).timer_threshold (timer_at past) (t % 300000) ms →
      next.expired ≡ expired →
      expired ≡ ltb (window_at past) (u / span past) →
      moved (record_of past) (grown (clock_at past) ms) next expired ≡ after-time past ms u →
      Comes u
  unfolding record_of
  comes u next expired e q w m =
      let laws = elapsed-accepted (record_of past) ms (grown (clock_at past) ms) next expired fits e refl q in
      (sym laws.0 ∙ m, sym laws.1 ∙ ap ended w)

  -- the window goes on, or ends
  same-window : (u : ℕ) → u / span past ≡ window_at past → false ≡ ltb (window_at past) (u / span past)
  same-window u e = sym (le-ltb (window_at past) (u / span past) (omega (arith, e)))

  next-window : (u : ℕ) → u / span past ≡ suc (window_at past) → true ≡ ltb (window_at past) (u / span past)
  next-window u e = sym (lt-ltb (window_at past) (u / span past) (omega (arith, e)))

  off : (in_force past).enabled ≡ false → Comes t
  unfolding record_of timer_at window_at active static below_a_counts of_kind_below_a
  off e =
      comes t (tick (timer_at past) (t % 300000) false) false (rw e (tick-off _ (timer_at past) (t % 300000) ms)) refl
      (same-window t refl) refl

  module _ (on : (in_force past).enabled ≡ true) where
    positive : 0 < p
    positive = enabled-positive past g on

    few : t % 300000 + ms < 300000 → Comes (t + ms)
    unfolding record_of timer_at window_at active static below_a_counts of_kind_below_a
    few h =
        comes (t + ms) (tick (timer_at past) (t % 300000 + ms) false) false
        (rw on (tick-few _ (timer_at past) (t % 300000) ms h)) refl
        (same-window (t + ms) (none-window t ms p positive h))
        (rw (none-window t ms p positive h, none-partial t ms p positive h, none-taken t ms p positive h))

    module _ (many : 300000 ≤ t % 300000 + ms) where
      more : timer_at past + 1 < p → Comes (t + ms)
      unfolding record_of timer_at window_at active static below_a_counts of_kind_below_a
      more h =
          comes (t + ms) (tick (timer_at past + 1) (t % 300000 + ms - 300000) false) false
          (rw (on, enabled-threshold past on) (tick-more p (timer_at past) (t % 300000) ms many h)) refl
          (same-window (t + ms) (goes_on t ms fits many p positive h))
          (rw (goes_on t ms fits many p positive h, one-partial t ms fits many, one-taken t ms fits many, one_more t p))

      end : p ≤ timer_at past + 1 → Comes (t + ms)
      unfolding record_of timer_at window_at below_a_counts
      end h =
          comes (t + ms) (tick 0 (t % 300000 + ms - 300000) true) true
          (rw (on, enabled-threshold past on) (tick-end p (timer_at past) (t % 300000) ms many h)) refl
          (next-window (t + ms) (ends t ms fits many p positive h))
          (rw (ends-timer t ms fits many p positive h, ends t ms fits many p positive h, one-partial t ms fits many)
          (λ i. with_timer
          (with_clock
          (with_static_window
          (with_active_window (record_of past) (empty-handed past g i) (no-loads past g i) (fast-emptied past g i))
          (window_from (λ k. handed-on past k i))
          (from 0 3 (λ k. count_of (fast-handed-on past k i))))
          (grown (clock_at past) ms)
          (host_set_at past))
          0
          (t % 300000 + ms - 300000)))

    step : (b : Bool) → leb 300000 (t % 300000 + ms) ≡ b → Comes (t + ms)
    step false q = few (leb-false _ _ q)
    step true q = by (leb p (timer_at past + 1)) refl
      where
        by : (b : Bool) → leb p (timer_at past + 1) ≡ b → Comes (t + ms)
        by false r = more (leb-true _ _ q) (leb-false _ _ r)
        by true r = end (leb-true _ _ q) (leb-true _ _ r)

  came : Comes (enabled_time (passed ms ∷ past))
  came = by (in_force past).enabled refl
    where
      by : (b : Bool) → (in_force past).enabled ≡ b → Comes (enabled_time (passed ms ∷ past))
      by true on = rw (time-after past ms true on) (step on (leb 300000 (t % 300000 + ms)) refl)
      by false e = rw (time-after past ms false e) (off e)

  pub elapsed-step : after_elapsed (record_of past) ms ≡ record_of (passed ms ∷ past)
  elapsed-step = came.0 ∙ sym (facts-after past ms)

  pub elapsed-answer : elapsed_answer (record_of past) ms ≡ ended (ltb (window_at past) (window_at (passed ms ∷ past)))
  unfolding window_at timer_threshold_of latest
  elapsed-answer = came.1
