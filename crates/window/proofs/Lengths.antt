-- The length of a block.
use mathlib.Core.List.{List, [], ◌∷◌}
use mathlib.Core.Path.{◌≡◌, refl}
use Prim.Native.Nat.{ℕ, ◌*◌}
use native.Mathlib.Nat.{mul-suc}
use native.Mathlib.Omega.{arith}
use lib.ListN.{length, length-append}
use Rattle.endian.specs.Stores.{fields, total}
use Rattle.endian.proofs.Runs.{length-low, length_fields}
use Rattle.window.specs.Block.{buckets, downward, column, block_widths, block_values, block_bytes}
use Rattle.window.specs.declared.fields.Window.{Window}

pub length-column : (width : ℕ) (values : List ℕ) → length (column width values) ≡ width * length values
unfolding fields
length-column width [] = omega arith
length-column width (v ∷ values) =
    rw (length-append, length-low, mul-suc) (omega (arith, length-column width values))

pub length-block : (w : Window) → length (block_bytes w) ≡ 186
unfolding block_bytes buckets downward total
length-block w = length_fields block_widths (block_values w) refl
