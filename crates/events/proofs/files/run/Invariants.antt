-- `run`: before each record, none was refused and the monitor is what the records before it leave.
use Rattle.std.proofs.Common.{◌-◌}
use Rattle.events.specs.Files.{whole_records}
use Rattle.events.proofs.files.Laws.{Ran}
use Rattle.events.proofs.files.run.Given as goal

abbrev pub invariant-loop-i : goal.invariant-loop-i
invariant-loop-i l = Ran l.initial.monitor l.s l.monitor l.i

abbrev pub decreases-loop-i : goal.decreases-loop-i
decreases-loop-i l = whole_records l.s - l.i
