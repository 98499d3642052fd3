-- What a history leaves of a new monitor is the record that its facts describe.
use Prim.Native.Nat.{ℕ, ◌+◌, ◌*◌, ◌-◌, ◌/◌, ◌%◌, ◌≤◌, min}
use mathlib.Core.Path.{◌≡◌, refl, sym, ap, ◌∙◌}
use mathlib.Core.Bool.{Bool, true, false, cond}
use mathlib.Core.List.{List, [], ◌∷◌}
use Rattle.std.specs.Prelude.{Option, None, Some}
use native.Mathlib.Nat.{zero-div, zero-mul}
use native.Mathlib.Omega.{arith}
use lib.Dec.{eqb, ltb}
use borrow.Author.Tests.{le-ltb}
use Rattle.logpage.specs.Fields.{no_debug_log}
use Rattle.window.specs.Fields.{empty_window, from}
use Rattle.monitor.specs.declared.record.Monitor.{Monitor}
use Rattle.rules.specs.Answers.{refused, ended, unless_refused}
use Rattle.history.specs.Claims.{record_of, PlayedAsFacts, WindowEnds}
use Rattle.history.specs.Facts.{in_force, sum, clock_at, host_set_at, timer_threshold_of, enabled_time, window_at, timer_at}
use Rattle.history.specs.Facts.{Completed, since_enabled, counted_at, filter, filter_map, active, static, count_of}
use Rattle.history.specs.Facts.{last_load, discard_in, triggered, earliest, log_of, debug_at}
use Rattle.history.specs.Facts.{of_kind_below_a, below_a_counts}
use Rattle.monitor.specs.Calls.{Call, settings, completion, elapsed, clock, power_up, page, settings_back, History}
use Rattle.monitor.specs.Calls.{after, play_from, refusal_of, found, below_a, only_if}
use Rattle.history.specs.Effects.{Effect, configured, clock_set, powered_up, nothing, passed, asked, if_accepted}
use Rattle.history.specs.Effects.{Past, past_of, latest, since, unless_found}
use Rattle.monitor.specs.Record.{new_monitor, after_settings, after_elapsed, elapsed_answer, after_clock, after_power_up}
use Rattle.rules.specs.Refusals.{settings_refusal, elapsed_refusal, clock_refusal, page_refusal, settings_back_refusal}
use Rattle.rules.specs.Settings.{decoded, discard}
use Rattle.monitor.proofs.Laws.{configured as reset, settings-accepted}
use Rattle.rules.proofs.Refusals.{accepted, elapsed-fits, clock-fits}
use Rattle.history.proofs.Completions.{completion-step}
use Rattle.history.proofs.Elapsed.{elapsed-step, elapsed-answer}
use Rattle.history.proofs.Facts.{Ok, Good, described}

-- the facts after settings that are accepted, by whether they enable
module _ (past : Past) (s : List ℕ) where
  time-after : (b : Bool) → (decoded s).enabled ≡ b → enabled_time (configured s ∷ past) ≡ cond b 0 (enabled_time past)
  unfolding enabled_time since sum
  time-after true e = rw e
  time-after false e = rw e

  threshold-after :
      (b : Bool) →
      (decoded s).enabled ≡ b →
      timer_threshold_of (configured s ∷ past) ≡ cond b (decoded s).timer_threshold (timer_threshold_of past)
  unfolding timer_threshold_of latest
  threshold-after true e = rw e
  threshold-after false e = rw e

  completed-after :
      (b : Bool) →
      (decoded s).enabled ≡ b →
      since_enabled (configured s ∷ past) ≡ cond b [] (since_enabled past)
  unfolding since
  completed-after true e = rw e
  completed-after false e = rw e

  debug-after : debug_at (configured s ∷ past) ≡ cond (eqb (discard s) 1) no_debug_log (debug_at past)
  unfolding debug_at since earliest filter
  debug-after = by (eqb (discard s) 1)
    where
      by :
          (b : Bool) →
          found no_debug_log log_of (earliest (filter triggered
          (unless_found (only_if b s) (since discard_in counted_at past)))) ≡ cond b no_debug_log (debug_at past)
      by true = refl
      by false = refl

  -- the record of the facts, of these four
  abbrev of-these : ℕ → ℕ → List Completed → Monitor
  of-these t p xs =
      described (decoded s) (t / 300000 - t / (300000 * p) * p) (host_set_at past) (t % 300000) (clock_at past)
      (cond (eqb (discard s) 1) no_debug_log (debug_at past))
      (t / (300000 * p))
      xs

  facts-after :
      record_of (configured s ∷ past) ≡
      of-these (enabled_time (configured s ∷ past)) (timer_threshold_of (configured s ∷ past))
      (since_enabled (configured s ∷ past))
  unfolding record_of in_force clock_at host_set_at timer_at window_at active static below_a_counts of_kind_below_a latest since
  facts-after = rw debug-after

  emptied-or-kept :
      (b : Bool) →
      reset (record_of past) (decoded s) (cond (eqb (discard s) 1) no_debug_log (debug_at past)) b ≡
      of-these (cond b 0 (enabled_time past)) (cond b (decoded s).timer_threshold (timer_threshold_of past))
      (cond b [] (since_enabled past))
  unfolding record_of timer_at window_at active static below_a_counts of_kind_below_a empty_window filter filter_map last_load count_of from
  emptied-or-kept true = rw (zero-div (300000 * (decoded s).timer_threshold), zero-mul (decoded s).timer_threshold)
  emptied-or-kept false = refl

  settings-step : settings_refusal s ≡ None → after_settings (record_of past) s ≡ record_of (configured s ∷ past)
  unfolding record_of
  settings-step e =
      sym (settings-accepted (record_of past) s (decoded s) (cond (eqb (discard s) 1) no_debug_log (debug_at past))
      (decoded s).enabled e refl refl refl).0 ∙
      emptied-or-kept (decoded s).enabled ∙
      (λ i. of-these (sym (time-after (decoded s).enabled refl) i)
      (sym (threshold-after (decoded s).enabled refl) i) (sym (completed-after (decoded s).enabled refl) i)) ∙
      sym facts-after

clock-step :
    (past : Past) (value : ℕ) →
    value ≤ 281474976710655 →
    after_clock (record_of past) value ≡ record_of (clock_set value ∷ past)
unfolding after_clock clock_refusal record_of in_force clock_at host_set_at timer_at window_at enabled_time timer_threshold_of active static below_a_counts of_kind_below_a debug_at latest since sum
clock-step past value h =
    let e : value ≡ min (value + 0) 281474976710655 = omega arith in
    rw (le-ltb 281474976710655 value h)
    (ap (λ n. described (in_force past) (timer_at past) true (enabled_time past % 300000) n (debug_at past)
    (window_at past) (since_enabled past)) e)

power-up-step : (past : Past) → after_power_up (record_of past) ≡ record_of (powered_up ∷ past)
unfolding after_power_up record_of in_force clock_at host_set_at timer_at window_at enabled_time timer_threshold_of active static below_a_counts of_kind_below_a debug_at latest since sum
power-up-step past = refl

nothing-step : (past : Past) → record_of past ≡ record_of (nothing ∷ past)
unfolding record_of in_force clock_at host_set_at timer_at window_at enabled_time timer_threshold_of active static below_a_counts of_kind_below_a debug_at latest since sum
nothing-step past = refl

new-step : new_monitor ≡ record_of []
unfolding new_monitor record_of in_force clock_at host_set_at timer_at window_at enabled_time timer_threshold_of active static below_a_counts of_kind_below_a debug_at latest since sum empty_window filter filter_map last_load count_of from earliest
new-step = refl

-- a refused call
module _ (m : Monitor) (n : ℕ) where
  settings-kept : (s : List ℕ) → settings_refusal s ≡ Some n → after_settings m s ≡ m
  unfolding after_settings
  settings-kept s e = rw e

  elapsed-kept : (ms : ℕ) → elapsed_refusal ms ≡ Some n → after_elapsed m ms ≡ m
  unfolding after_elapsed
  elapsed-kept ms e = rw e

  elapsed-refused : (ms : ℕ) → elapsed_refusal ms ≡ Some n → elapsed_answer m ms ≡ refused n
  unfolding elapsed_answer
  elapsed-refused ms e = rw e

  clock-kept : (value : ℕ) → clock_refusal value ≡ Some n → after_clock m value ≡ m
  unfolding after_clock
  clock-kept value e = rw e

-- what a call that is accepted, or refused, does to the facts
Step : Past → Call → Option ℕ → Effect → Type 0
Step past c r e = Ok (if_accepted r e) × (after c (record_of past) ≡ record_of (if_accepted r e ∷ past))

reads :
    (past : Past) (r : Option ℕ) →
    Ok (if_accepted r nothing) × (record_of past ≡ record_of (if_accepted r nothing ∷ past))
reads past None = (tt, nothing-step past)
reads past (Some n) = (tt, nothing-step past)

step : (past : Past) → Good past → (c : Call) → Step past c (refusal_of c) (asked c)
unfolding Step
step past g (settings s) = by (settings_refusal s) refl
  where
    by : (r : Option ℕ) → settings_refusal s ≡ r → Step past (settings s) r (configured s)
    by None e = ((accepted s e).timed, settings-step past s e)
    by (Some n) e = (tt, settings-kept (record_of past) n s e ∙ nothing-step past)
step past g (completion c) = (tt, completion-step past g c)
step past g (elapsed ms) = by (elapsed_refusal ms) refl
  where
    by : (r : Option ℕ) → elapsed_refusal ms ≡ r → Step past (elapsed ms) r (passed ms)
    by None e = (elapsed-fits ms e, elapsed-step past g ms (elapsed-fits ms e))
    by (Some n) e = (tt, elapsed-kept (record_of past) n ms e ∙ nothing-step past)
step past g (clock value) = by (clock_refusal value) refl
  where
    by : (r : Option ℕ) → clock_refusal value ≡ r → Step past (clock value) r (clock_set value)
    by None e = (clock-fits value e, clock-step past value (clock-fits value e))
    by (Some n) e = (tt, clock-kept (record_of past) n value e ∙ nothing-step past)
step past g power_up = (tt, power-up-step past)
step past g (page k) = reads past (page_refusal k)
step past g (settings_back k) = reads past (settings_back_refusal k)
step past g (below_a w) = reads past None

pub good : (h : History) → Good (past_of h)
unfolding Step
good [] = tt
good (c ∷ h) = ((step (past_of h) (good h) c).0, good h)

pub played-as-facts : PlayedAsFacts
unfolding play_from Step
played-as-facts [] = new-step
played-as-facts (c ∷ h) = ap (after c) (played-as-facts h) ∙ (step (past_of h) (good h) c).1

pub window-ends : WindowEnds
window-ends h ms = ap (λ m. elapsed_answer m ms) (played-as-facts h) ∙ by (elapsed_refusal ms) refl
  where
    by :
        (r : Option ℕ) →
        elapsed_refusal ms ≡ r →
        elapsed_answer (record_of (past_of h)) ms ≡
        unless_refused r (ended (ltb (window_at (past_of h)) (window_at (if_accepted r (passed ms) ∷ past_of h))))
    by None e = elapsed-answer (past_of h) (good h) ms (elapsed-fits ms e)
    by (Some n) e = elapsed-refused (record_of (past_of h)) n ms e
