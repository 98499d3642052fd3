-- The monitor's record, and what each call makes of it and answers.
use Rattle.std.specs.Prelude.{Bool, true, false, cond, List, ℕ, ◌-◌, eqb, get_or, set, replicate}
use Rattle.std.specs.Prelude.{Option, None, Some}
use Rattle.logpage.specs.Fields.{no_settings, no_debug_log}
use Rattle.window.specs.Fields.{empty_window}
use Rattle.rules.specs.declared.commands.Command.{Command}
use Rattle.monitor.specs.declared.record.Monitor.{Monitor}
use Rattle.rules.specs.declared.timer.Tick.{Tick}
use Rattle.rules.specs.Answers.{CallAnswer, done, not_counted, counted, ended, unless_refused}
use Rattle.rules.specs.Commands.{counter_of, below_a_of, milliseconds_of}
use Rattle.rules.specs.Refusals.{settings_refusal, elapsed_refusal, clock_refusal}
use Rattle.rules.specs.Settings.{discard, decoded}
use Rattle.rules.specs.Counting.{bit, loads, counted_in, counted_below_a, triggers, debug_log}
use Rattle.rules.specs.Timer.{grown, ticked, in_window}
use Rattle.monitor.specs.Fields.{with_settings, with_clock, with_timer, with_active_window, with_static_window}
use Rattle.monitor.specs.Fields.{with_debug_log}

-- no stamp was loaded in the active window
abbrev pub no_loads : List ℕ
no_loads = replicate 12 0

-- 02, Ticket 2: no completion of a kind was below threshold A
abbrev pub none_below_a : List ℕ
none_below_a = replicate 3 0

-- 01, The monitor's record: before any call. Document 01 calls `timer` steps, `partial` the partial step, the active
-- window the running one and the static window the last finished one. 02, Ticket 2: beside each window stand its counts
-- below threshold A
unfoldable pub new_monitor : Monitor
new_monitor =
    record {
      settings = no_settings;
      clock = 0;
      host_set = false;
      timer = 0;
      partial = 0;
      active_window = empty_window;
      loaded = no_loads;
      active_below_a = none_below_a;
      static_window = empty_window;
      static_below_a = none_below_a;
      debug = no_debug_log;
    }

-- what a call leaves of the record, or of a lent buffer: the old content if it is refused, else the next
abbrev pub untouched_if : {A : Type 0} → Option ℕ → A → A → A
untouched_if (Some n) old next = old
untouched_if None old next = next

-- 01, Settings: enabling empties both windows and starts the timer anew, even if no setting differs; disabling leaves
-- them as they are
abbrev pub restarted_if : Bool → Monitor → Monitor
restarted_if on m =
    with_timer
    (with_static_window
    (with_active_window m (cond on empty_window m.active_window) (cond on no_loads m.loaded)
    (cond on none_below_a m.active_below_a))
    (cond on empty_window m.static_window)
    (cond on none_below_a m.static_below_a))
    (cond on 0 m.timer)
    (cond on 0 m.partial)

-- 01, Settings: the record after accepted settings. Discard decides on the debug log by itself
abbrev replaced : Monitor → List ℕ → Monitor
replaced m s =
    with_debug_log (with_settings (restarted_if (decoded s).enabled m) (decoded s))
    (cond (eqb (discard s) 1) no_debug_log m.debug)

-- what settings do, and what they answer
unfoldable pub after_settings : Monitor → List ℕ → Monitor
after_settings m s = untouched_if (settings_refusal s) m (replaced m s)

unfoldable pub settings_answer : List ℕ → CallAnswer
settings_answer s = unless_refused (settings_refusal s) done

-- the time since counter n's last load: the time in the window now, less that at the load
abbrev pub since_load : Monitor → ℕ → ℕ
since_load m n = in_window m.timer m.partial - get_or m.loaded n 0

-- whether a completion of so many ms loads counter n's stamp
abbrev pub loads_at : Monitor → ℕ → ℕ → Bool
loads_at m n ms =
    loads (get_or m.active_window.stamps n 0) (get_or m.active_window.latencies n 0) (since_load m n)
    ms
    (bit m.settings.mode n)
    m.settings.minimum_window

-- whether a completion for counter n takes a debug log
abbrev pub triggers_at : Monitor → ℕ → Bool
triggers_at m n = triggers (bit m.settings.trigger n) m.debug.stamp

-- the record after a completion of so many ms that counts for counter n
abbrev after_counted : Monitor → ℕ → ℕ → Monitor
after_counted m n ms =
    let load : Bool = loads_at m n ms in
    with_debug_log
    (with_active_window m (counted_in load n m.clock ms m.host_set m.active_window)
    (cond load (set m.loaded n (in_window m.timer m.partial)) m.loaded)
    m.active_below_a)
    (cond (triggers_at m n) (debug_log n m.clock ms m.host_set) m.debug)

-- 02, Ticket 2: the record with other counts below threshold A in the active window
abbrev pub with_below_a : Monitor → List ℕ → Monitor
with_below_a m counts = with_active_window m m.active_window m.loaded counts

-- by the counter; without one, by the kind below threshold A, if it is below
abbrev on_counter : Option ℕ → Option ℕ → Monitor → ℕ → Monitor
on_counter (Some n) kind m ms = after_counted m n ms
on_counter None kind m ms = with_below_a m (counted_below_a kind m.active_below_a)

-- 01, A completion: what it does; nothing turns it away
unfoldable pub after_completion : Monitor → Command → Monitor
after_completion m c =
    on_counter (counter_of m.settings c) (below_a_of m.settings c) m (milliseconds_of c)

-- 01, A completion: what it answers
abbrev counter_answer : Option ℕ → Monitor → ℕ → CallAnswer
counter_answer (Some n) m ms = counted n (loads_at m n ms) (triggers_at m n)
counter_answer None m ms = not_counted

unfoldable pub completion_answer : Monitor → Command → CallAnswer
completion_answer m c = counter_answer (counter_of m.settings c) m (milliseconds_of c)

-- the timer after elapsed time, and whether the window ends
abbrev pub ticked_by : Monitor → ℕ → Tick
ticked_by m ms =
    ticked m.settings.enabled m.settings.timer_threshold m.timer m.partial ms

-- 01, Time and power: a window that ends takes the static window's place, and its counts below threshold A go with it
abbrev pub ended_if : Bool → Monitor → Monitor
ended_if expired m =
    with_static_window
    (with_active_window m (cond expired empty_window m.active_window) (cond expired no_loads m.loaded)
    (cond expired none_below_a m.active_below_a))
    (cond expired m.active_window m.static_window)
    (cond expired m.active_below_a m.static_below_a)

-- 01, Time and power: the record after accepted elapsed time
abbrev after_time : Monitor → ℕ → Monitor
after_time m ms =
    let t : Tick = ticked_by m ms in
    with_timer (with_clock (ended_if t.expired m) (grown m.clock ms) m.host_set) t.timer t.partial

-- 01, Time and power: what elapsed time does, and what it answers
unfoldable pub after_elapsed : Monitor → ℕ → Monitor
after_elapsed m ms = untouched_if (elapsed_refusal ms) m (after_time m ms)

unfoldable pub elapsed_answer : Monitor → ℕ → CallAnswer
elapsed_answer m ms = unless_refused (elapsed_refusal ms) (ended (ticked_by m ms).expired)

-- 01, Time and power: the host sets the clock (document 01: host-set)
unfoldable pub after_clock : Monitor → ℕ → Monitor
after_clock m value = untouched_if (clock_refusal value) m (with_clock m value true)

unfoldable pub clock_answer : ℕ → CallAnswer
clock_answer value = unless_refused (clock_refusal value) done

-- 01, Time and power: power-up starts the clock anew, as one that no host has set
unfoldable pub after_power_up : Monitor → Monitor
after_power_up m = with_clock m 0 false
