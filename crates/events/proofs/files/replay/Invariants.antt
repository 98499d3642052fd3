-- `replay`: before each run, the monitor is what the records before it leave.
use Rattle.std.proofs.Common.{◌-◌}
use Rattle.events.specs.Files.{whole_records}
use Rattle.events.proofs.files.Laws.{Replayed}
use Rattle.events.proofs.files.replay.Given as goal

abbrev pub invariant-loop-refused : goal.invariant-loop-refused
invariant-loop-refused l = Replayed l.initial.monitor l.s l.monitor l.i

abbrev pub decreases-loop-refused : goal.decreases-loop-refused
decreases-loop-refused l = whole_records l.s - l.i
