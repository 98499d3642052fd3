-- 01, The facts of a history: all of this file but what is marked 02. Each fact is asked at a place, of what was done
-- before it.
use Rattle.std.specs.Prelude.{Bool, false, cond, ◌&&◌, List, [], ◌∷◌, ℕ, ◌+◌, ◌-◌, ◌*◌, ◌/◌, min, eqb, leb, ltb, length}
use Rattle.std.specs.Prelude.{Option, None, Some}
use Rattle.logpage.specs.Fields.{no_settings, no_debug_log}
use Rattle.window.specs.Fields.{unset, from, each}
use Rattle.logpage.specs.declared.page.LogPage.{LogPage}
use Rattle.logpage.specs.declared.fields.DebugLog.{DebugLog}
use Rattle.logpage.specs.declared.fields.Settings.{Settings}
use Rattle.window.specs.declared.fields.Window.{Window}
use Rattle.rules.specs.declared.commands.Command.{Command}
use Rattle.monitor.specs.declared.windows.WindowChoice.{WindowChoice}
use Rattle.monitor.specs.declared.windows.WindowChoice.TheVariants.{Active, Static}
use Rattle.rules.specs.Commands.{kind_of, is_below_a, counter_of, milliseconds_of}
use Rattle.rules.specs.Counting.{bit, held, debug_log}
use Rattle.monitor.specs.Calls.{found, only_if, and_then}
use Rattle.history.specs.Effects.{Effect, Past, ClockSetting, settings_in, completion_in, elapsed_in, clock_in}
use Rattle.history.specs.Effects.{latest, since}
use Rattle.rules.specs.Settings.{decoded, discard}

-- in force: what the latest accepted settings say, or a new monitor's settings
unfoldable pub in_force : Past → Settings
in_force past = found no_settings decoded (latest settings_in past)

-- sum of a list
unfoldable pub sum : List ℕ → ℕ
sum [] = 0
sum (x ∷ xs) = sum xs + x

-- no effect is the start: what is found since it is found since the start
abbrev pub start : Effect → Option ℕ
start e = None

-- time: all elapsed time that was accepted
abbrev pub elapsed_at : Effect → Past → Option ℕ
elapsed_at e past = elapsed_in e

unfoldable pub time : Past → ℕ
time past = sum (since start elapsed_at past)

-- the clock: what it was last set to (0 by power-up, and at the start) and the elapsed time since then, up to its top;
-- and whether the host had set it (document 01: host-set)
unfoldable pub clock_at : Past → ℕ
clock_at past =
    min (found 0 (λ (set : ClockSetting). set.value) (latest clock_in past) + sum (since clock_in elapsed_at past))
    281474976710655

unfoldable pub host_set_at : Past → Bool
host_set_at past = found false (λ (set : ClockSetting). set.set_by_host) (latest clock_in past)

-- settings that enable the monitor
abbrev pub enabling_in : Effect → Option Settings
enabling_in e = found None (λ s. only_if (decoded s).enabled (decoded s)) (settings_in e)

-- the timer threshold of the latest settings that enable (document 01: p)
unfoldable pub timer_threshold_of : Past → ℕ
timer_threshold_of past = found 0 (λ (s : Settings). s.timer_threshold) (latest enabling_in past)

-- the elapsed time since those settings, without what passed while disabled (document 01: t)
abbrev pub while_enabled : Effect → Past → Option ℕ
while_enabled e past = found None (only_if (in_force past).enabled) (elapsed_in e)

unfoldable pub enabled_time : Past → ℕ
enabled_time past = sum (since enabling_in while_enabled past)

-- the number of the active window, the first being 0. Without settings that enable, time and threshold are 0, and 0 ÷ 0
-- is 0
unfoldable pub window_at : Past → ℕ
window_at past = enabled_time past / (300000 * timer_threshold_of past)

-- the timer (document 01: steps): the whole increments of that time, less those of the windows that ended
unfoldable pub timer_at : Past → ℕ
timer_at past = enabled_time past / 300000 - window_at past * timer_threshold_of past

-- an enabled completion of a Read, Write or Deallocate, with its kind and its place: what becomes of it is asked of the
-- settings in force there, and its window is the one at that place
pub record Completed : Type 0 where
  pub kind : ℕ
  pub command : Command
  pub before : Past

-- by whether the monitor is enabled at the place, and the kind of the command
abbrev pub completed_if : Bool → Option ℕ → Command → Past → Option Completed
completed_if enabled kind c past =
    found None (λ k. only_if enabled (record { kind = k; command = c; before = past })) kind

abbrev pub completed_at : Effect → Past → Option Completed
completed_at e past = found None (λ c. completed_if (in_force past).enabled (kind_of c) c past) (completion_in e)

-- all of them since the latest settings that enable, the newest first; those settings are the latest such ones at each
-- of their places too, so the numbers of windows can be compared
abbrev pub since_enabled : Past → List Completed
since_enabled past = since enabling_in completed_at past

-- a counted one, with its counter
pub record Counted : Type 0 where
  pub counter : ℕ
  pub command : Command
  pub before : Past

abbrev pub counted_of : Completed → Option Counted
counted_of x =
    found None (λ n. Some (record { counter = n; command = x.command; before = x.before }))
    (counter_of (in_force x.before) x.command)

abbrev pub counted_at : Effect → Past → Option Counted
counted_at e past = found None counted_of (completed_at e past)

-- what f finds of the entries of a list
unfoldable pub filter_map : {A B : Type 0} → (A → Option B) → List A → List B
filter_map f [] = []
filter_map f (x ∷ xs) = and_then (f x) (filter_map f xs)

-- the entries of a list that pass a test
unfoldable pub filter : {A : Type 0} → (A → Bool) → List A → List A
filter test [] = []
filter test (x ∷ xs) = cond (test x) (x ∷ filter test xs) (filter test xs)

-- the counted ones among all of them
abbrev pub counted_since : Past → List Counted
counted_since past = filter_map counted_of (since_enabled past)

-- whether a place is in the active window of a past, or in its static one (document 01: running, last finished)
abbrev pub is_in : WindowChoice → Past → Past → Bool
is_in Active past place = eqb (window_at place) (window_at past)
is_in Static past place = eqb (window_at place + 1) (window_at past)

-- one counter's completions in a window
abbrev pub counter_in : WindowChoice → Past → ℕ → Counted → Bool
counter_in w past n x = is_in w past x.before && eqb x.counter n

unfoldable pub active : Past → ℕ → List Counted
active past n = filter (counter_in Active past n) (counted_since past)

unfoldable pub static : Past → ℕ → List Counted
static past n = filter (counter_in Static past n) (counted_since past)

-- the count: how many there are, up to the counter's top
unfoldable pub count_of : {A : Type 0} → List A → ℕ
count_of xs = held (length xs)

-- 02, Ticket 2: all enabled completions of a kind in a window, whatever their latency, and those below threshold A
abbrev pub kind_in : WindowChoice → Past → ℕ → Completed → Bool
kind_in w past k x = is_in w past x.before && eqb x.kind k

abbrev pub is_fast : Completed → Bool
is_fast x = is_below_a (in_force x.before) x.command

unfoldable pub of_kind : WindowChoice → Past → ℕ → List Completed
of_kind w past k = filter (kind_in w past k) (since_enabled past)

unfoldable pub of_kind_below_a : WindowChoice → Past → ℕ → List Completed
of_kind_below_a w past k = filter (λ x. kind_in w past k x && is_fast x) (since_enabled past)

-- 02, Ticket 2: the counts below threshold A, by kind
unfoldable pub below_a_counts : WindowChoice → Past → List ℕ
below_a_counts w past = from 0 3 (λ k. count_of (of_kind_below_a w past k))

-- whether x loads the stamp again after a load: in mode largest, with more ms, and with the minimum window over. The
-- first completion in a window always loads it
abbrev pub loads_after : Counted → Counted → Bool
loads_after x load =
    bit (in_force x.before).mode x.counter && (ltb (milliseconds_of load.command) (milliseconds_of x.command) &&
    leb (100 * (in_force x.before).minimum_window) (time x.before - time load.before))

abbrev pub or_load : Counted → Option Counted → Option Counted
or_load x None = Some x
or_load x (Some load) = cond (loads_after x load) (Some x) (Some load)

unfoldable pub last_load : List Counted → Option Counted
last_load [] = None
last_load (x ∷ earlier) = or_load x (last_load earlier)

-- what the last load left: the clock at its place (stamp), its ms (document 01: shown latency), and whether the host
-- had set that clock (document 01: clock mark); without a load, what an empty window has
abbrev pub stamp_of : Option Counted → ℕ
stamp_of load = found unset (λ x. clock_at x.before) load

abbrev pub latency_of : Option Counted → ℕ
latency_of load = found 0 (λ x. milliseconds_of x.command) load

abbrev pub units_of : Option Counted → Bool
units_of load = found false (λ x. host_set_at x.before) load

-- a window, from the completions counted for each counter
abbrev pub window_from : (ℕ → List Counted) → Window
window_from completions =
    record {
      counters = each (λ n. count_of (completions n));
      stamps = each (λ n. stamp_of (last_load (completions n)));
      latencies = each (λ n. latency_of (last_load (completions n)));
      units = each (λ n. units_of (last_load (completions n)));
    }

-- the debug log (document 01: debug record): that of the earliest counted completion with its trigger on since the last
-- discard
abbrev pub discard_in : Effect → Option (List ℕ)
discard_in e = found None (λ s. only_if (eqb (discard s) 1) s) (settings_in e)

abbrev pub triggered : Counted → Bool
triggered x = bit (in_force x.before).trigger x.counter

abbrev pub or_earliest : Counted → Option Counted → Option Counted
or_earliest x None = Some x
or_earliest x (Some y) = Some y

unfoldable pub earliest : List Counted → Option Counted
earliest [] = None
earliest (x ∷ earlier) = or_earliest x (earliest earlier)

abbrev pub log_of : Counted → DebugLog
log_of x = debug_log x.counter (clock_at x.before) (milliseconds_of x.command) (host_set_at x.before)

unfoldable pub debug_at : Past → DebugLog
debug_at past = found no_debug_log log_of (earliest (filter triggered (since discard_in counted_at past)))

-- what the page shows of the facts
unfoldable pub facts_of : Past → LogPage
facts_of past =
    record {
      settings = in_force past;
      timer = timer_at past;
      active_window = window_from (active past);
      static_window = window_from (static past);
      debug = debug_at past;
    }
