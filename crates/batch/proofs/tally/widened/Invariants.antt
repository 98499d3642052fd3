-- `widened`: the counts below this place are there.
use Rattle.std.proofs.Common.{◌≡◌, take}
use Rattle.batch.proofs.tally.widened.Given as goal

abbrev pub invariant-loop-place : goal.invariant-loop-place
invariant-loop-place l = take l.place l.count-items ≡ take l.place l.counts
