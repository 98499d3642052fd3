-- Laws of how long a program reads on.
use mathlib.Core.Bool.{Bool, true, false, true≢false}
use mathlib.Core.Path.{◌≡◌, refl, sym}
use Prim.Native.Nat.{ℕ}
use borrow.Author.Tests.{eqb-true}
use Rattle.streams.specs.Blocks.{goes_on}

-- where the next block is read, it was wanted and the last one was whole
pub whole-and-wanted : (n : ℕ) (wanted : Bool) → goes_on n wanted ≡ true → (n ≡ 65536) × (wanted ≡ true)
unfolding goes_on
whole-and-wanted n true e = (eqb-true n 65536 e, refl)
whole-and-wanted n false e = absurd (true≢false (sym e))
