-- A block that is written is read back, and keeps the rules of a block.
use mathlib.Core.Bool.{true}
use mathlib.Core.List.{List, ◌∷◌}
use mathlib.Core.Path.{◌≡◌, refl}
use Prim.Native.Nat.{ℕ, ◌+◌, ◌*◌, ◌<◌}
use native.Mathlib.Omega.{arith}
use borrow.Author.Tests.{lt-ltb}
use lib.Dec.{lit<}
use lib.ListN.{get_or}
use Rattle.endian.specs.Bytes.{any_set}
use Rattle.endian.specs.Loads.{values_at}
use Rattle.endian.specs.Stores.{low_first, fields}
use Rattle.endian.proofs.Layouts.{Fit, none, ◌▸◌, narrow, values-back}
use Rattle.window.specs.Block.{bits, flags, buckets, downward, block_widths, block_values, block_bytes}
use Rattle.window.specs.BlockReader.{window_in, of_twelve, clear, window_fits, block_keeps}
use Rattle.window.specs.Fields.{from, FitsWindow}
use Rattle.window.specs.declared.fields.Window.{Window}
use Rattle.window.proofs.Lists.{twelve, flags-back}
use Rattle.window.proofs.block.Laws.{bits_fit}

module _ (w : Window) (x : FitsWindow w) where
  bucket-fit : (b : ℕ) {widths values : List ℕ} → Fit widths values
      → Fit (4 ∷ 4 ∷ 4 ∷ 4 ∷ widths)
      (0 ∷ get_or w.counters (3 * b + 2) 0 ∷ get_or w.counters (3 * b + 1) 0 ∷ get_or w.counters (3 * b) 0 ∷ values)
  bucket-fit b later = lit< tt ▸ x.counters _ ▸ x.counters _ ▸ x.counters _ ▸ later

  units-fit : bits w.units < 65536
  units-fit = omega (arith, bits_fit w.units (omega (arith, x.twelve_units)))

  block_fit : Fit block_widths (block_values w)
  unfolding buckets downward
  block_fit =
      let s = x.stamps in
      let l = x.latencies in
      bucket-fit 0 (bucket-fit 1 (bucket-fit 2 (bucket-fit 3
      (s 11 ▸ s 10 ▸ s 9 ▸ s 8 ▸ s 7 ▸ s 6 ▸ s 5 ▸ s 4 ▸ s 3 ▸ s 2 ▸ s 1 ▸ s 0 ▸
      l 11 ▸ l 10 ▸ l 9 ▸ l 8 ▸ l 7 ▸ l 6 ▸ l 5 ▸ l 4 ▸ l 3 ▸ l 2 ▸ l 1 ▸ l 0 ▸ units-fit ▸ none))))

  pub block-values : values_at 0 block_widths (block_bytes w) ≡ block_values w
  unfolding block_bytes narrow
  block-values = values-back block_fit refl

  pub window-back : window_in (block_bytes w) ≡ w
  unfolding window_in from buckets downward
  window-back =
      let c = twelve 0 w.counters x.twelve_counters in
      let s = twelve 0 w.stamps x.twelve_stamps in
      let l = twelve 0 w.latencies x.twelve_latencies in
      let u : flags 12 (bits w.units) ≡ w.units = rw x.twelve_units at (flags-back w.units) in
      rw block-values (λ i. record { counters = c i; stamps = s i; latencies = l i; units = u i })

pub buckets-clear :
    (w : Window) →
    let block = block_bytes w in
    (clear 0 4 block ≡ true) × (clear 16 4 block ≡ true) × (clear 32 4 block ≡ true) × (clear 48 4 block ≡ true)
unfolding block_bytes buckets downward fields low_first any_set
buckets-clear w = (refl, refl, refl, refl)

-- of a window that keeps its own
pub block-kept : (w : Window) → FitsWindow w → window_fits w ≡ true → block_keeps (block_bytes w) (window_in (block_bytes w)) ≡ true
unfolding block_keeps buckets downward
block-kept w y f =
    let m : of_twelve (bits w.units) ≡ true = lt-ltb _ _ (bits_fit w.units (omega (arith, y.twelve_units))) in
    let z = buckets-clear w in
    rw (z.0, z.1, z.2, z.3, block-values w y, m, window-back w y, f)
