-- What the calls' branches come to, as laws over plain values.
use mathlib.Core.Path.{◌≡◌}
use mathlib.Core.Bool.{Bool, false, cond}
use mathlib.Core.List.{List}
use Rattle.std.specs.Prelude.{Some, None}
use Prim.Native.Nat.{ℕ, ◌≤◌}
use lib.Dec.{eqb}
use lib.ListN.{set}
use borrow.Author.Tests.{le-ltb}
use Rattle.logpage.specs.Fields.{no_debug_log}
use Rattle.window.specs.Fields.{window_of}
use Rattle.window.specs.declared.fields.Window.{Window}
use Rattle.logpage.specs.declared.fields.DebugLog.{DebugLog}
use Rattle.logpage.specs.declared.fields.Settings.{Settings}
use Rattle.rules.specs.declared.commands.Command.{Command}
use Rattle.monitor.specs.declared.record.Monitor.{Monitor}
use Rattle.rules.specs.declared.timer.Tick.{Tick}
use Rattle.rules.specs.Answers.{done, refused, not_counted, counted, ended, unless_refused}
use Rattle.rules.specs.Refusals.{settings_refusal, elapsed_refusal}
use Rattle.rules.specs.Settings.{discard, decoded}
use Rattle.rules.specs.Counting.{bit, once_more_at, counted_in, counted_below_a, triggers, debug_log}
use Rattle.rules.specs.Commands.{counter_of, is_below_a, below_a_of, milliseconds_of}
use Rattle.rules.specs.Timer.{grown, ticked, in_window}
use Rattle.rules.proofs.commands.Laws.{below-a-kind}
use Rattle.rules.proofs.settings.Laws.{refused-by}
use Rattle.monitor.specs.Fields.{with_settings, with_clock, with_timer, with_active_window, with_debug_log}
use Rattle.monitor.specs.Record.{restarted_if, ended_if, after_settings, settings_answer, after_completion}
use Rattle.monitor.specs.Record.{completion_answer, after_elapsed, elapsed_answer, loads_at, with_below_a}

-- a completion without a counter, by the counts below threshold A that it leaves
pub uncounted :
    (m : Monitor) (c : Command) (counts : List ℕ) →
    counter_of m.settings c ≡ None →
    counts ≡ counted_below_a (below_a_of m.settings c) m.active_below_a →
    (with_below_a m counts ≡ after_completion m c) × (not_counted ≡ completion_answer m c)
unfolding after_completion completion_answer
uncounted m c counts e more = (rw (e, more), rw e)

-- settings that are turned away
pub settings-refused :
    (m : Monitor) (s : List ℕ) (n : ℕ) →
    refused n ≡ unless_refused (settings_refusal s) done →
    (m ≡ after_settings m s) × (refused n ≡ settings_answer s)
unfolding after_settings settings_answer
settings-refused m s n e = (rw (refused-by (settings_refusal s) n e), e)

-- settings that are accepted, by whether they enable
abbrev pub configured : Monitor → Settings → DebugLog → Bool → Monitor
configured m next debug on = with_debug_log (with_settings (restarted_if on m) next) debug

pub settings-accepted :
    (m : Monitor) (s : List ℕ) (next : Settings) (debug : DebugLog) (on : Bool) →
    settings_refusal s ≡ None →
    next ≡ decoded s →
    debug ≡ cond (eqb (discard s) 1) no_debug_log m.debug →
    next.enabled ≡ on →
    (configured m next debug on ≡ after_settings m s) × (done ≡ settings_answer s)
unfolding after_settings settings_answer
settings-accepted m s next debug on accepted read keeps enables =
    (rw (accepted, ← read, ← enables, keeps), rw accepted)

-- a completion that is neither below threshold A nor counted
pub not-counted :
    (m : Monitor) (c : Command) →
    counter_of m.settings c ≡ None →
    is_below_a m.settings c ≡ false →
    (m ≡ after_completion m c) × (not_counted ≡ completion_answer m c)
not-counted m c e reached = uncounted m c _ e (rw (below-a-kind m.settings c false reached))

-- what a counted completion writes, by whether it loads the stamp
abbrev pub recorded : Monitor → (n ms : ℕ) (log : DebugLog) (counters : List ℕ) (load : Bool) → Monitor
recorded m n ms log counters load =
    let w : Window = m.active_window in
    with_debug_log
    (with_active_window m
    (window_of counters (cond load (set w.stamps n m.clock) w.stamps)
    (cond load (set w.latencies n ms) w.latencies)
    (cond load (set w.units n m.host_set) w.units))
    (cond load (set m.loaded n (in_window m.timer m.partial)) m.loaded)
    m.active_below_a)
    log

-- what is known once it is decided whether the stamp is loaded
pub record Decided (m : Monitor) (c : Command) (n ms : ℕ) (log : DebugLog) (counters : List ℕ) (debug load : Bool) : Type 0 where
  pub next : recorded m n ms log counters load ≡ after_completion m c
  pub answer : counted n load debug ≡ completion_answer m c

pub decide :
    (m : Monitor) (c : Command) (n ms : ℕ) (log : DebugLog) (counters : List ℕ) (debug load : Bool) →
    counter_of m.settings c ≡ Some n →
    ms ≡ milliseconds_of c →
    debug ≡ triggers (bit m.settings.trigger n) m.debug.stamp →
    log ≡ cond debug (debug_log n m.clock ms m.host_set) m.debug →
    counters ≡ once_more_at m.active_window.counters n →
    load ≡ loads_at m n ms →
    Decided m c n ms log counters debug load
unfolding after_completion completion_answer counted_in
decide m c n ms log counters debug load chosen measured takes logs counts loading =
    record {
      next = rw (chosen, ← measured, ← loading, ← takes, ← logs, ← counts);
      answer = rw (chosen, ← measured, ← loading, ← takes);
    }

-- elapsed time that is accepted, by whether the window ends
abbrev pub moved : Monitor → ℕ → Tick → Bool → Monitor
moved m clock t expired =
    with_timer (with_clock (ended_if expired m) clock m.host_set) t.timer t.partial

pub elapsed-accepted :
    (m : Monitor) (ms clock : ℕ) (t : Tick) (expired : Bool) →
    ms ≤ 300000 →
    t ≡ ticked m.settings.enabled m.settings.timer_threshold m.timer m.partial ms →
    clock ≡ grown m.clock ms →
    t.expired ≡ expired →
    (moved m clock t expired ≡ after_elapsed m ms) × (ended expired ≡ elapsed_answer m ms)
unfolding after_elapsed elapsed_answer elapsed_refusal
elapsed-accepted m ms clock t expired fits ticks grows ends =
    (rw (le-ltb _ _ fits, ← ticks, ← ends, grows), rw (le-ltb _ _ fits, ← ticks, ends))
