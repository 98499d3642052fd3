-- `unit_bits`: the bits of the units passed.
use mathlib.Core.Path.{refl}
use native.Mathlib.Omega.{arith}
use borrow.Author.Rules.{rules}
use Rattle.window.specs.Block.{bits}
use Rattle.window.proofs.block.Laws.{bit-added}
use Rattle.window.proofs.block.unit_bits.Goals as goal

pub loop-n-init : goal.loop-n-init
unfolding bits
loop-n-init c = refl

pub overflow_add-mask : goal.overflow_add-mask
overflow_add-mask c = omega (arith, bit-added c.args.units c.loop-n.n _ _ (search rules) (search rules) c.loop-n.invariant c.from.ensures)

pub loop-n-preserved : goal.loop-n-preserved
loop-n-preserved c = (bit-added c.args.units c.loop-n.n _ _ (search rules) (search rules) c.loop-n.invariant c.from.ensures).0
