-- `replay_lines`: before each run, the monitor is what the records before it leave, and their lines are stored.
use Rattle.std.proofs.Common.{◌-◌}
use Rattle.events.specs.Files.{whole_records}
use Rattle.events.proofs.files.Laws.{Replayed}
use Rattle.events.proofs.blocks.Laws.{Told}
use Rattle.events.proofs.blocks.replay_lines.Given as goal

abbrev pub invariant-loop-refused : goal.invariant-loop-refused
invariant-loop-refused l =
    Replayed l.initial.monitor l.s l.monitor l.i × Told l.first l.s l.initial.out l.out l.i l.len

abbrev pub decreases-loop-refused : goal.decreases-loop-refused
decreases-loop-refused l = whole_records l.s - l.i
