-- `put_counters`: a bucket after the other.
use mathlib.Core.Path.{◌≡◌}
use lib.Seq.{sets}
use Rattle.window.specs.Block.{buckets, column}
use Rattle.window.proofs.block.put_counters.Given as goal

abbrev pub invariant-loop-b : goal.invariant-loop-b
invariant-loop-b l =
    (l.block ≡ sets l.initial.block 0 (column 4 (buckets l.counters l.b)))
