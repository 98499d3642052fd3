-- `held_all`: the counts below this place are held.
use Rattle.std.proofs.Common.{◌≡◌, take}
use Rattle.batch.specs.Tally.{held_all}
use Rattle.batch.proofs.tally.held_all.Given as goal

abbrev pub invariant-loop-place : goal.invariant-loop-place
invariant-loop-place l = take l.place l.count-items ≡ held_all (take l.place l.counts)
