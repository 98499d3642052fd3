-- Laws of the block: its stores, one after the other.
use mathlib.Core.Bool.{Bool, true, false}
use mathlib.Core.List.{List, [], ◌∷◌, ◌++◌, append_assoc}
use mathlib.Core.Path.{◌≡◌, refl, sym, ◌∙◌, ap}
use Prim.Native.Nat.{ℕ, zero, suc, ◌+◌, ◌*◌, ◌-◌, ◌%◌, ◌^◌, ◌<◌, ◌≤◌}
use native.Mathlib.Nat.{not-suc-le-zero, one-le-pow, pow-succ', mul-suc, mul-le-mul_left}
use native.Mathlib.Numerals.{add-one}
use native.Mathlib.Omega.{arith}
use borrow.Rule.Slice.PartMut.{put_mid}
use lib.ListN.{length, get_or, take, drop, length-append, length-take}
use lib.Seq.{sets, length-sets}
use Rattle.endian.specs.Stores.{low_first, fields}
use Rattle.endian.proofs.Runs.{length-low, part-run, put-part, run_more, run-left, sets-whole}
use Rattle.window.specs.Block.{flag, bucket_values, buckets, downward, column, bits, block_bytes}
use Rattle.window.specs.declared.fields.Window.{Window}
use Rattle.window.proofs.Lengths.{length-column, length-block}

length-buckets : (counters : List ℕ) (b : ℕ) → length (buckets counters b) ≡ 4 * b
unfolding buckets
length-buckets counters zero = omega arith
length-buckets counters (suc b) =
    length-append (buckets counters b) (bucket_values counters b) ∙ omega (arith, length-buckets counters b)

-- columns one after the other
column-append : (width : ℕ) (a b : List ℕ) → column width (a ++ b) ≡ column width a ++ column width b
unfolding fields
column-append width [] b = refl
column-append width (v ∷ a) b =
    rw (column-append width a b) (sym (append_assoc (low_first width v) (column width a) (column width b)))

-- one more bucket
pub buckets-more :
    (counters l cur part : List ℕ) (b : ℕ) →
    b < 4 →
    64 ≤ length cur →
    cur ≡ sets l 0 (column 4 (buckets counters b)) →
    part ≡ column 4 (bucket_values counters b) →
    put_mid (16 * b) (16 * b + 16 - 16 * b) cur part ≡ sets l 0 (column 4 (buckets counters (b + 1)))
unfolding buckets
buckets-more counters l cur part b h k e e' =
    let sixteen : 16 * b + 16 - 16 * b ≡ 16 = omega arith in
    let so_far : length (column 4 (buckets counters b)) ≡ 16 * b =
    length-column 4 (buckets counters b) ∙ omega (arith, length-buckets counters b)
    in
    let one : length (column 4 (bucket_values counters b)) ≡ 16 = length-column 4 (bucket_values counters b) in
    rw (sixteen, add-one, column-append 4 (buckets counters b) (bucket_values counters b))
    (run_more l cur _ (column 4 (buckets counters b)) (column 4 (bucket_values counters b)) 0 (16 * b) (omega arith) e
    (part-run cur part (column 4 (bucket_values counters b)) (16 * b) 16 (omega arith) one e'))

-- the place of the last of n counters, and the end of its value
pub lower-place :
    (start width n at : ℕ) →
    0 < n →
    n ≤ 12 →
    at ≡ start + width * (11 - (n - 1)) →
    let here = start + width * (12 - n) in
    (at ≡ here) × (start + width * (12 - (n - 1)) ≡ here + width) × (at + width ≤ start + width * 12)
lower-place start width n at h k e =
    let place : 11 - (n - 1) ≡ 12 - n = omega arith in
    let next : 12 - (n - 1) ≡ suc (12 - n) = omega arith in
    let last : width * (12 - n) + width ≤ width * 12 =
    omega (arith, mul-le-mul_left {m = suc (12 - n)} {n = 12} width (omega arith), mul-suc width (12 - n))
    in
    rw (e, place, next) (refl, omega (arith, mul-suc width (12 - n)), omega arith)

-- values of one width, the last counter's first: the last of those that are left, and none left
module _ (width : ℕ) (values : List ℕ) where
  pub downward-more :
      (cur part goal : List ℕ) (n at place end after : ℕ) →
      0 < n →
      place ≡ at →
      end - place ≡ width →
      at + width ≤ length cur →
      after ≡ at + width →
      sets cur at (column width (downward values n)) ≡ goal →
      part ≡ low_first (length (take (end - place) (drop place cur))) (get_or values (n - 1) 0) →
      sets (put_mid place (end - place) cur part) after (column width (downward values (n - 1))) ≡ goal
  unfolding downward fields
  downward-more cur part goal zero at place end after h p q r a e e' = absurd (not-suc-le-zero h)
  downward-more cur part goal (suc n) at place end after h p q r a e e' =
      let k : suc n - 1 ≡ n = omega arith in
      let v : ℕ = get_or values n 0 in
      let w : after ≡ at + length (low_first width v) = omega (arith, length-low width v) in
      rw k
      (run-left cur _ goal (low_first width v) (column width (downward values n)) at after w e
      (put-part cur part place end width v q (omega arith) (rw k at e') ∙ ap (λ x. sets cur x (low_first width v)) p))

  pub downward-end :
      (cur goal : List ℕ) (n at : ℕ) →
      n ≤ 0 →
      sets cur at (column width (downward values n)) ≡ goal →
      cur ≡ goal
  unfolding downward fields
  downward-end cur goal n at h e =
      let z : n ≡ 0 = omega arith in
      rw z at e

-- one bit more
pub bits-more :
    (units : List Bool) (n : ℕ) →
    n < length units →
    bits (take (n + 1) units) ≡ bits (take n units) + flag (get_or units n false) * 2 ^ n
unfolding bits
bits-more [] n h = absurd (not-suc-le-zero h)
bits-more (b ∷ units) zero h = omega arith
bits-more (b ∷ units) (suc n) h = rw (add-one, pow-succ' 2 n) (omega (arith, rw add-one at (bits-more units n (omega arith))))

pub flag-below : (b : Bool) → flag b < 2
flag-below true = omega arith
flag-below false = omega arith

bits_below : (units : List Bool) (n : ℕ) → length units ≤ n → bits units < 2 ^ n
unfolding bits
bits_below [] n h = one-le-pow n 2 (omega arith)
bits_below (b ∷ units) zero h = absurd (not-suc-le-zero h)
bits_below (true ∷ units) (suc n) h = rw (pow-succ' 2 n) (omega (arith, bits_below units n (omega arith)))
bits_below (false ∷ units) (suc n) h = rw (pow-succ' 2 n) (omega (arith, bits_below units n (omega arith)))

pub bits_fit : (units : List Bool) → length units ≤ 12 → bits units < 4096
bits_fit units h = bits_below units 12 h

pub bit-added :
    (units : List Bool) (n mask bit : ℕ) →
    length units ≡ 12 →
    n < 12 →
    mask ≡ bits (take n units) →
    bit ≡ flag (get_or units n false) →
    (mask + bit * 2 ^ n % 2 ^ 64 ≡ bits (take (n + 1) units)) × (bits (take (n + 1) units) < 4096)
bit-added units n mask bit k h e b =
    let fits : bits (take (n + 1) units) < 4096 = bits_fit (take (n + 1) units) (omega (arith, length-take (n + 1) units)) in
    rw (e, b) (omega (arith, bits-more units n (omega arith)), fits)

-- the four parts, one after the other
block-parts :
    (w : Window) →
    block_bytes w ≡
    column 4 (buckets w.counters 4) ++ column 8 (downward w.stamps 12) ++ column 2 (downward w.latencies 12)
    ++ low_first 2 (bits w.units)
unfolding block_bytes buckets downward fields low_first
block-parts w = refl

pub block_run :
    (w : Window) (l s₁ s₂ s₃ part : List ℕ) (v : ℕ) →
    length l ≡ 186 →
    s₁ ≡ sets l 0 (column 4 (buckets w.counters 4)) →
    s₂ ≡ sets s₁ 64 (column 8 (downward w.stamps 12)) →
    s₃ ≡ sets s₂ 160 (column 2 (downward w.latencies 12)) →
    v ≡ bits w.units →
    part ≡ low_first (length (take 2 (drop 184 s₃))) v →
    put_mid 184 2 s₃ part ≡ block_bytes w
unfolding buckets downward
block_run w l s₁ s₂ s₃ part v h e₁ e₂ e₃ e p =
    let counts : List ℕ = column 4 (buckets w.counters 4) in
    let stamps : List ℕ = column 8 (downward w.stamps 12) in
    let latencies : List ℕ = column 2 (downward w.latencies 12) in
    let units : List ℕ = low_first 2 (bits w.units) in
    let n₁ : length counts ≡ 64 = length-column 4 (buckets w.counters 4) in
    let n₂ : length (counts ++ stamps) ≡ 160 = simp (length-append, length-column) in
    let n₃ : length (counts ++ stamps ++ latencies) ≡ 184 = simp (length-append, length-column) in
    let k₁ : length s₁ ≡ 186 = ap length e₁ ∙ length-sets l 0 counts ∙ h in
    let k₂ : length s₂ ≡ 186 = ap length e₂ ∙ length-sets s₁ 64 stamps ∙ k₁ in
    let k₃ : length s₃ ≡ 186 = ap length e₃ ∙ length-sets s₂ 160 latencies ∙ k₂ in
    let r₂ = run_more l s₁ s₂ counts stamps 0 64 (omega arith) e₁ e₂ in
    let r₃ = run_more l s₂ s₃ (counts ++ stamps) latencies 0 160 (omega arith) r₂ e₃ in
    let last = put-part s₃ part 184 186 2 (bits w.units) refl (omega arith) (rw e at p) in
    let r₄ = run_more l s₃ _ (counts ++ stamps ++ latencies) units 0 184 (omega arith) r₃ last in
    r₄ ∙ ap (sets l 0) (sym (block-parts w)) ∙ sets-whole l (block_bytes w) (length-block w ∙ sym h)
