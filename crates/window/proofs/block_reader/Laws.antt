-- Laws of the block's reader: the flags of a mask, and tests asked one by one.
use mathlib.Core.Bool.{Bool, false, not, ◌&&◌}
use mathlib.Core.List.{List}
use mathlib.Core.Path.{◌≡◌, refl, ◌∙◌}
use Prim.Native.Nat.{ℕ, zero, suc, ◌+◌, ◌-◌, ◌/◌, ◌%◌, ◌^◌, ◌<◌, ◌≤◌}
use native.Mathlib.Nat.{div-one, div-div-eq-div-mul, pow-suc}
use native.Mathlib.Numerals.{add-one}
use native.Mathlib.Omega.{arith}
use lib.Dec.{eqb, ltb}
use lib.ListN.{get_or}
use Rattle.endian.specs.Bytes.{any_set}
use Rattle.endian.specs.Loads.{number, part, values_at}
use Rattle.window.specs.Tests.{passes}
use Rattle.window.specs.Block.{flags, counter_place, stamp_place, latency_place}
use Rattle.window.specs.BlockReader.{window_in, counter_fits, window_fits, block_keeps}
use Rattle.window.specs.Fields.{window_of, from, each}
use Rattle.window.specs.declared.fields.Window.{Window}

-- the field of each counter in a block, by its place and width
abbrev pub field_of : (place : ℕ → ℕ) (width : ℕ) → List ℕ → ℕ → ℕ
field_of place width block n = number (part (place n) width block)

-- the flag of counter n in a mask, and all twelve
abbrev pub flag_of : ℕ → ℕ → Bool
flag_of mask n = eqb (mask / 2 ^ n % 2) 1

flags-from : (i n mask : ℕ) → from i n (flag_of mask) ≡ flags n (mask / 2 ^ i)
unfolding from flags
flags-from i zero mask = refl
flags-from i (suc n) mask =
    let later : mask / 2 ^ suc i ≡ mask / 2 ^ i / 2 = rw (div-div-eq-div-mul mask (2 ^ i) 2, pow-suc 2 i) in
    rw (flags-from (suc i) n mask, later)

pub mask-flags : (mask : ℕ) → each (flag_of mask) ≡ flags 12 mask
mask-flags mask = flags-from 0 12 mask ∙ rw div-one

-- whether a counter of a window, by its number, keeps the rules
abbrev pub tested : Window → ℕ → Bool
tested w n =
    counter_fits (get_or w.counters n 0) (get_or w.stamps n 0) (get_or w.latencies n 0) (get_or w.units n false)

-- twelve tests: those that are left, asked from here, give the answer
module _ (test : ℕ → Bool) where
  pub tests-more :
      (so_far answer : Bool) (n : ℕ) (passed : Bool) →
      n < 12 →
      passed ≡ test n →
      passes so_far (from n (12 - n) test) ≡ answer →
      passes (so_far && passed) (from (n + 1) (12 - (n + 1)) test) ≡ answer
  unfolding from
  tests-more so_far answer n passed h e k =
      let p : 12 - n ≡ suc (12 - suc n) = omega arith in
      rw (add-one, e) (rw p at k)

  pub tests-end :
      (so_far answer : Bool) (n : ℕ) →
      12 ≤ n →
      passes so_far (from n (12 - n) test) ≡ answer →
      so_far ≡ answer
  unfolding from
  tests-end so_far answer n h k =
      let p : 12 - n ≡ 0 = omega arith in
      rw p at k

-- the arrays that were read by their places are those of the window
pub block_read :
    (block counters stamps latencies : List ℕ) (mask : ℕ) (units : List Bool) →
    counters ≡ each (field_of counter_place 4 block) →
    stamps ≡ each (field_of stamp_place 8 block) →
    latencies ≡ each (field_of latency_place 2 block) →
    mask ≡ number (part 184 2 block) →
    units ≡ flags 12 mask →
    window_of counters stamps latencies units ≡ window_in block
unfolding window_in from values_at
block_read block counters stamps latencies mask units c s l m u = rw (c, s, l, u, m)

-- the rules of a block, one by one
pub block-kept :
    (block : List ℕ) (w : Window) (a b c d fits : Bool) (mask : ℕ) →
    a ≡ any_set (part 0 4 block) →
    b ≡ any_set (part 16 4 block) →
    c ≡ any_set (part 32 4 block) →
    d ≡ any_set (part 48 4 block) →
    mask ≡ number (part 184 2 block) →
    fits ≡ window_fits w →
    (((((not a && not b) && not c) && not d) && ltb mask 4096) && fits) ≡ block_keeps block w
unfolding block_keeps values_at
block-kept block w a b c d fits mask ea eb ec ed em ef = rw (ea, eb, ec, ed, em, ef)
