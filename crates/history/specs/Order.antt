-- 02, Ticket 6: completions with no other call among them, in any order.
use Rattle.std.specs.Prelude.{◌≡◌, true, ℕ, ◌<◌}
use mathlib.Core.List.{List, map, Perm}
use Rattle.logpage.specs.Fields.{no_debug_log}
use Rattle.window.specs.Fields.{unset}
use Rattle.logpage.specs.declared.fields.Settings.{Settings}
use Rattle.rules.specs.declared.commands.Command.{Command}
use Rattle.monitor.specs.declared.record.Monitor.{Monitor}
use Rattle.rules.specs.Counting.{bit}
use Rattle.history.specs.Facts.{in_force}
use Rattle.monitor.specs.Fields.{with_debug_log}
use Rattle.monitor.specs.Calls.{completion, History, play_from, play}
use Rattle.history.specs.Effects.{past_of}

-- mode largest for all twelve counters, and no minimum window
pub record LargestWithoutMinimum (s : Settings) : Type 0 where
  pub largest : (n : ℕ) → n < 12 → bit s.mode n ≡ true
  pub no_minimum : s.minimum_window ≡ 0

-- the record after these completions, the last of the list first, as in a history
abbrev pub after_completions : Monitor → List Command → Monitor
after_completions m cs = play_from m (map completion cs)

-- a record but for its debug log, which goes to the first completion that triggers it
abbrev pub without_debug_log : Monitor → Monitor
without_debug_log m = with_debug_log m no_debug_log

-- Completions and a rearrangement of them leave the same record but for the debug log, so the same active window and
-- counts below threshold A. The clock is not all ones, which would be stored as an unset stamp
abbrev pub InAnyOrder : Type 0
InAnyOrder =
    (m : Monitor) (cs ds : List Command) →
    LargestWithoutMinimum m.settings →
    m.clock < unset →
    Perm cs ds →
    without_debug_log (after_completions m cs) ≡ without_debug_log (after_completions m ds)

-- and so after any history, whose clock is never all ones
abbrev pub InAnyOrderAfterHistory : Type 0
InAnyOrderAfterHistory =
    (h : History) (cs ds : List Command) →
    LargestWithoutMinimum (in_force (past_of h)) →
    Perm cs ds →
    without_debug_log (after_completions (play h) cs) ≡ without_debug_log (after_completions (play h) ds)

-- The debug log decides on nothing but itself, so whatever calls follow, two orders stay the same but for it
abbrev pub DebugLogLeftOut : Type 0
DebugLogLeftOut =
    (m : Monitor) (h : History) → without_debug_log (play_from m h) ≡ without_debug_log (play_from (without_debug_log m) h)
