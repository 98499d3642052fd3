-- Laws of bytes as numbers.
use mathlib.Core.Path.{◌≡◌, refl}
use mathlib.Core.List.{List, [], ◌∷◌}
use Prim.Native.Nat.{ℕ}
use borrow.Author.Tests.{eqb-true}
use mathlib.Core.Bool.{Bool, true, false, not, ◌||◌, true≢false}
use lib.Dec.{eqb}
use lib.ListN.{length, replicate}
use Rattle.endian.specs.Bytes.{any_set}

-- bytes of which none is set are zeros
pub none-set : (s : List ℕ) → any_set s ≡ false → s ≡ replicate (length s) 0
unfolding any_set
none-set [] e = refl
none-set (b ∷ bs) e = by (eqb b 0) refl e (none-set bs)
  where
    by :
        (t : Bool) →
        eqb b 0 ≡ t →
        (not t || any_set bs) ≡ false →
        (any_set bs ≡ false → bs ≡ replicate (length bs) 0) →
        b ∷ bs ≡ 0 ∷ replicate (length bs) 0
    by true h q rest = λ i. eqb-true b 0 h i ∷ rest q i
    by false h q rest = absurd (true≢false q)
