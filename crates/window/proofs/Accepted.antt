-- A block that keeps the rules is written again as the same bytes.
use mathlib.Core.Bool.{Bool, true}
use mathlib.Core.List.{List, [], ◌∷◌}
use mathlib.Core.Path.{◌≡◌, refl, ap, ◌∙◌}
use Prim.Native.Nat.{ℕ, ◌+◌, ◌≤◌}
use native.Mathlib.Omega.{arith}
use borrow.Author.Tests.{ltb-true, not-true}
use lib.ListN.{length, get_or, drop, length-drop}
use lib.Seq.{take_all, length-take-le}
use Rattle.endian.specs.Bytes.{Bytes, any_set}
use Rattle.endian.specs.Loads.{number, part, values_at}
use Rattle.endian.specs.Stores.{fields, total}
use Rattle.endian.proofs.Bytes.{none-set}
use Rattle.endian.proofs.Layouts.{narrow, bytes_back}
use Rattle.endian.proofs.Numbers.{clear_zero}
use Rattle.window.specs.Block.{zeros, buckets, downward, block_widths, block_values, block_bytes}
use Rattle.window.specs.BlockReader.{window_in, of_twelve, clear, window_fits, block_keeps}
use Rattle.window.specs.Fields.{from}
use Rattle.window.specs.declared.fields.Window.{Window}
use Rattle.window.proofs.Lists.{passed, bits-again}

-- a part that is clear
pub clear-part : (l : List ℕ) (at n : ℕ) → at + n ≤ length l → clear at n l ≡ true → part at n l ≡ zeros n
clear-part l at n h e =
    let k : length (part at n l) ≡ n = length-take-le n (drop at l) (omega (arith, length-drop at l)) in
    none-set (part at n l) (not-true (any_set (part at n l)) e) ∙ rw k

pub clear-number : (l : List ℕ) (at n : ℕ) → clear at n l ≡ true → number (part at n l) ≡ 0
clear-number l at n e = clear_zero (part at n l) (not-true (any_set (part at n l)) e)

-- a block
module _ (block : List ℕ) (w : Window) where
  abbrev block-rules : List Bool
  block-rules =
      clear 0 4 block
      ∷ clear 16 4 block
      ∷ clear 32 4 block
      ∷ clear 48 4 block
      ∷ of_twelve (get_or (values_at 0 block_widths block) 40 0)
      ∷ window_fits w
      ∷ []

  block-rule : block_keeps block w ≡ true → (k : ℕ) → get_or block-rules k true ≡ true
  unfolding block_keeps
  block-rule = passed block-rules

pub block-again :
    (block : List ℕ) →
    Bytes block →
    length block ≡ 186 →
    block_keeps block (window_in block) ≡ true →
    block_bytes (window_in block) ≡ block
unfolding block_bytes window_in values_at from buckets downward narrow total
block-again block b n fit =
    let r = block-rule block (window_in block) fit in
    let z = clear-number block in
    let m = bits-again 12 (number (part 184 2 block)) (ltb-true _ _ (r 4)) in
    let same : block_values (window_in block) ≡ values_at 0 block_widths block =
    rw (m, z 0 4 (r 0), z 16 4 (r 1), z 32 4 (r 2), z 48 4 (r 3))
    in
    ap (fields block_widths) same
    ∙ bytes_back block_widths block 0 refl b (omega arith)
    ∙ take_all 186 block (omega arith)
