-- `counted_at`: what stands below i is written.
use mathlib.Core.Path.{◌≡◌}
use Rattle.rules.specs.Counting.{once_more}
use Rattle.rules.proofs.counting.Laws.{written}
use Rattle.rules.proofs.counting.counted_at.Given as goal

abbrev pub invariant-loop-i : goal.invariant-loop-i
invariant-loop-i g l = l.count-items ≡ written once_more l.fn.counts l.n l.i
