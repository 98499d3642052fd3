-- `put_each`: what is left, stored from here, gives the whole.
use mathlib.Core.Path.{◌≡◌}
use Prim.Native.Nat.{◌+◌, ◌*◌, ◌-◌}
use lib.Seq.{sets}
use Rattle.window.specs.Block.{downward, column}
use Rattle.window.proofs.block.put_each.Given as goal

abbrev pub invariant-loop-n : goal.invariant-loop-n
invariant-loop-n g l =
    sets l.block (g.start + l.width * (12 - l.n)) (column l.width (downward l.values l.n)) ≡
    sets l.initial.block g.start (column l.width (downward l.values 12))
