-- `latency_above`: the definition's own text.
use native.Mathlib.Omega.{arith}
use Rattle.rules.specs.Commands.{latency_above}
use Rattle.rules.proofs.commands.latency_above.Goals as goal

pub returns : goal.returns
unfolding latency_above
returns c = omega arith
