-- For a loop over many records: the clock and the timer that a call leaves, if it is accepted and changes these alone.
use Rattle.std.specs.Prelude.{true, false, not, ℕ}
use Rattle.std.specs.Prelude.{Option, None, Some}
use Rattle.batch.specs.declared.parts.Time.{Time}
use Rattle.monitor.specs.declared.record.Monitor.{Monitor}
use Rattle.rules.specs.declared.timer.Tick.{Tick}
use Rattle.monitor.specs.Calls.{Call, settings, completion, elapsed, clock, power_up, page, settings_back, below_a, only_if}
use Rattle.monitor.specs.Fields.{with_clock, with_timer}
use Rattle.monitor.specs.Record.{untouched_if, ticked_by}
use Rattle.rules.specs.Refusals.{elapsed_refusal, clock_refusal}
use Rattle.rules.specs.Timer.{grown}

-- elapsed time changes these alone where the active window goes on
unfoldable pub passed_by : Monitor → ℕ → Option Time
passed_by m ms =
    let t : Tick = ticked_by m ms in
    untouched_if (elapsed_refusal ms) None
    (only_if (not t.expired)
    (record { clock = grown m.clock ms; host_set = m.host_set; timer = t.timer; partial = t.partial }))

-- an accepted clock call, and power-up, always do
unfoldable pub clocked_by : Monitor → ℕ → Option Time
clocked_by m value =
    untouched_if (clock_refusal value) None
    (Some (record { clock = value; host_set = true; timer = m.timer; partial = m.partial }))

abbrev pub powered_by : Monitor → Time
powered_by m = record { clock = 0; host_set = false; timer = m.timer; partial = m.partial }

-- by the call; no other does
abbrev pub time_by : Monitor → Call → Option Time
time_by m (settings s) = None
time_by m (completion c) = None
time_by m (elapsed ms) = passed_by m ms
time_by m (clock value) = clocked_by m value
time_by m power_up = Some (powered_by m)
time_by m (page n) = None
time_by m (settings_back n) = None
time_by m (below_a w) = None

-- the record with another clock and timer
abbrev pub with_time : Monitor → Time → Monitor
with_time m t = with_clock (with_timer m t.timer t.partial) t.clock t.host_set
