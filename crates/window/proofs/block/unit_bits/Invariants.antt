-- `unit_bits`: the bits of the units passed.
use mathlib.Core.Path.{◌≡◌}
use lib.ListN.{take}
use Rattle.window.specs.Block.{bits}
use Rattle.window.proofs.block.unit_bits.Given as goal

abbrev pub invariant-loop-n : goal.invariant-loop-n
invariant-loop-n l = l.mask ≡ bits (take l.n l.unit-items)
