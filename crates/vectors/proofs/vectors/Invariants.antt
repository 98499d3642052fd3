-- No more vectors agree than were read.
use Rattle.std.proofs.Common.{◌≤◌}
use Rattle.vectors.proofs.vectors.Given as goal

abbrev pub invariant-loop-i : goal.invariant-loop-i
invariant-loop-i g l = l.agreed ≤ l.i-counter
