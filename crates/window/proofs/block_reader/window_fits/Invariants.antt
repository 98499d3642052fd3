-- `window_fits`: the counters that are left, asked from here, give the answer.
use mathlib.Core.Path.{◌≡◌}
use Prim.Native.Nat.{◌-◌}
use Rattle.window.specs.Tests.{passes}
use Rattle.window.specs.BlockReader.{window_fits}
use Rattle.window.specs.Fields.{from}
use Rattle.window.proofs.block_reader.Laws.{tested}
use Rattle.window.proofs.block_reader.window_fits.Given as goal

abbrev pub invariant-loop-n : goal.invariant-loop-n
invariant-loop-n l =
    passes l.fits (from l.n (12 - l.n) (tested l.w)) ≡ window_fits l.w
