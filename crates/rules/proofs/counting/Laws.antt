-- Laws of counting.
use mathlib.Core.Path.{◌≡◌, refl}
use mathlib.Core.Bool.{Bool, true, false, cond, ◌&&◌}
use mathlib.Core.List.{List}
use Prim.Native.Nat.{ℕ, ◌/◌, ◌%◌, ◌^◌, ◌≤◌, ◌<◌}
use native.Mathlib.Nat.{div-eq_of_lt, pow-le-pow_right}
use native.Mathlib.Omega.{arith}
use borrow.Author.Tests.{ltb-true, ltb-false}
use lib.Dec.{eqb, ltb}
use lib.ListN.{get_or, set}
use Rattle.rules.specs.Counting.{bit}

-- a list that is written whole, changed at one place alone, is a store at that place
module _ (f : ℕ → ℕ) (l : List ℕ) (n : ℕ) where
  -- the list with what stands below i written
  abbrev pub written : ℕ → List ℕ
  written i = cond (ltb n i) (set l n (f (get_or l n 0))) l

-- a bit of a mask of sixteen, whose place is taken within them
pub bit-within : (mask n : ℕ) → mask < 65536 → (ltb n 16 && eqb (mask / 2 ^ (n % 16) % 2) 1) ≡ bit mask n
bit-within mask n fits = by (ltb n 16) refl
  where
    by : (t : Bool) → ltb n 16 ≡ t → (t && eqb (mask / 2 ^ (n % 16) % 2) 1) ≡ bit mask n
    by true h =
        let place : n % 16 ≡ n = omega (arith, ltb-true n 16 h) in
        rw place
    by false h =
        let far : 65536 ≤ 2 ^ n = pow-le-pow_right (omega arith) (ltb-false n 16 h) in
        let none : mask / 2 ^ n ≡ 0 = div-eq_of_lt (omega (arith, far)) in
        rw none
