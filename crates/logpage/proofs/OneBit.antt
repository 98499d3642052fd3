-- A number with one set bit: a power of two, and its trailing zeros say which.
use mathlib.Core.Path.{◌≡◌}
use Prim.Native.Nat.{ℕ, zero, suc, ◌+◌, ◌*◌, ◌/◌, ◌%◌, ◌^◌, ◌<◌, ◌≤◌}
use native.Mathlib.Decide.{ℕ_discrete}
use native.Mathlib.Nat.{not-suc-le-zero, pow-succ', one-le-pow}
use native.Mathlib.Omega.{arith}
use lib.Count.{ones, ones_step, ones_cat, under, count_trailing_zeros}

half-below : (k s : ℕ) → s < 2 ^ suc k → s / 2 < 2 ^ k
half-below k s h =
    let e : s < 2 * 2 ^ k = rw (pow-succ' 2 k) at h in
    omega arith

none-set : (k s : ℕ) → s < 2 ^ k → ones s ≡ 0 → s ≡ 0
none-set zero s h e = omega arith
none-set (suc k) s h e =
    let rest = none-set k (s / 2) (half-below k s h) (omega (arith, ones_step s)) in
    omega (arith, ones_step s)

one_set :
    (k j s : ℕ) →
    k ≤ j →
    s < 2 ^ k →
    ones s ≡ 1 →
    (s ≡ 2 ^ count_trailing_zeros j s) × (count_trailing_zeros j s < k)
unfolding count_trailing_zeros ones
one_set zero j s l h e =
    let z : s ≡ 0 = omega arith in
    let n : ones 0 ≡ 1 = rw z at e in
    absurd (omega (arith, n))
one_set (suc k) zero s l h e = absurd (not-suc-le-zero l)
one_set (suc k) (suc j) s l h e =
    by (ℕ_discrete (s % 2) 0) (λ r. one_set k j (s / 2) (omega arith) (half-below k s h) r)
  where
    rest : ℕ
    rest = count_trailing_zeros j (s / 2)

    by :
        Dec (s % 2 ≡ 0) →
        (ones (s / 2) ≡ 1 → (s / 2 ≡ 2 ^ rest) × (rest < k)) →
        (s ≡ 2 ^ under (s % 2) rest) × (under (s % 2) rest < suc k)
    by (yes z) later =
        let r = later (omega (arith, ones_step s)) in
        rw z (rw (pow-succ' 2 rest) (omega arith), omega arith)
    by (no z) later =
        let o : s % 2 ≡ 1 = omega arith in
        let n = none-set k (s / 2) (half-below k s h) (omega (arith, ones_step s)) in
        rw o (omega arith, omega arith)

-- the source of a debug log: one bit of the twelve counters
pub source-bit : (s : ℕ) → s < 4096 → ones s ≡ 1 → (s ≡ 2 ^ count_trailing_zeros 16 s) × (count_trailing_zeros 16 s < 12)
source-bit s h e = one_set 12 16 s (omega arith) h e

-- a power of two has one bit
pub ones_power : (n : ℕ) → ones (2 ^ n) ≡ 1
unfolding ones
ones_power n =
    let e : 1 * 2 ^ n + 0 ≡ 2 ^ n = omega arith in
    rw e at (ones_cat n 1 0 (one-le-pow n 2 (omega arith)))
