-- `bounds`: the counters below n have their bound.
use Rattle.std.proofs.Common.{◌≡◌, ◌<◌, ℕ, get_or}
use Rattle.batch.specs.Tally.{counter_bound}
use Rattle.batch.proofs.tally.bounds.Given as goal

abbrev pub invariant-loop-n : goal.invariant-loop-n
invariant-loop-n l = (k : ℕ) → k < l.n → get_or l.bound-items k 0 ≡ counter_bound l.m k
