-- Laws of the number that bytes make.
use mathlib.Core.Path.{◌≡◌, refl, ap, ◌∙◌}
use mathlib.Core.Bool.{Bool, true, false, not, ◌||◌, true≢false}
use Rattle.std.proofs.Math.Bool.{or-false}
use mathlib.Core.List.{List, [], ◌∷◌, ◌++◌}
use Prim.Native.Nat.{ℕ, zero, suc, ◌+◌, ◌-◌, ◌*◌, ◌^◌, ◌<◌, ◌≤◌}
use native.Mathlib.Nat.{pow-succ', one-le-pow}
use native.Mathlib.Omega.{arith}
use borrow.Author.Tests.{eq-eqb, eqb-true, eqb-false}
use lib.Dec.{eqb}
use lib.ListN.{get_or, take, drop, length-take}
use lib.Seq.{take_all, get_or-drop}
use Rattle.endian.specs.Bytes.{any_set}
use Rattle.endian.specs.Loads.{number, part}

-- a number is zero where no byte is set, and only there
pub zero_clear : (l : List ℕ) → number l ≡ 0 → any_set l ≡ false
unfolding number any_set
zero_clear [] e = refl
zero_clear (b ∷ bs) e = rw (eq-eqb b 0 (omega arith)) (zero_clear bs (omega arith))

pub nonzero-set : (l : List ℕ) → (number l ≡ 0 → ⊥) → any_set l ≡ true
unfolding number any_set
nonzero-set [] n = absurd (n refl)
nonzero-set (b ∷ bs) n = by (eqb b 0) refl (nonzero-set bs)
  where
    by : (t : Bool) → eqb b 0 ≡ t → ((number bs ≡ 0 → ⊥) → any_set bs ≡ true) → (not t || any_set bs) ≡ true
    by false e later = refl
    by true e later = later (λ z. n (omega (arith, eqb-true b 0 e)))

-- n bytes make a number below 256 ^ n
pub below : (l : List ℕ) → ((k : ℕ) → get_or l k 0 < 256) → (n : ℕ) → number (take n l) < 256 ^ n
unfolding number
below l bytes zero = omega arith
below [] bytes (suc n) = one-le-pow (suc n) 256 (omega arith)
below (b ∷ bs) bytes (suc n) = rw (pow-succ' 256 n) (omega (arith, bytes 0, below bs (λ k. bytes (suc k)) n))

-- w bytes from a place on: what a load takes of them, and that it fits as many bytes
module _ (s : List ℕ) (at place w v : ℕ) (p : at ≡ place) (h : w ≤ 8)
    (e : v ≡ number (take 8 (take (at + w - at) (drop at s)))) where
  pub loaded : v ≡ number (part place w s)
  loaded =
      let n : at + w - at ≡ w = omega arith in
      e ∙ rw (n, p) (ap number (take_all 8 (part place w s) (omega (arith, length-take w (drop place s)))))

  pub loaded-fits : ((k : ℕ) → get_or s k 0 < 256) → v < 256 ^ w
  loaded-fits bytes = rw loaded (below (drop place s) (λ k. rw (get_or-drop place s k 0) (bytes (place + k))) w)

-- bytes of which none is set make zero
pub clear_zero : (l : List ℕ) → any_set l ≡ false → number l ≡ 0
unfolding number any_set
clear_zero [] e = refl
clear_zero (b ∷ bs) e = by (eqb b 0) refl e (clear_zero bs)
  where
    by :
        (t : Bool) →
        eqb b 0 ≡ t →
        (not t || any_set bs) ≡ false →
        (any_set bs ≡ false → number bs ≡ 0) →
        b + 256 * number bs ≡ 0
    by true h q rest = omega (arith, eqb-true b 0 h, rest q)
    by false h q rest = absurd (true≢false q)

-- a byte of two lists is set where one of either is
set-append : (a b : List ℕ) → any_set (a ++ b) ≡ (any_set a || any_set b)
unfolding any_set
set-append [] b = refl
set-append (x ∷ a) b = rw (set-append a b) (by (eqb x 0))
  where
    by : (t : Bool) → (not t || (any_set a || any_set b)) ≡ ((not t || any_set a) || any_set b)
    by true = refl
    by false = refl

-- one byte more, at the end
pub set-push : (bs : List ℕ) (b : ℕ) → any_set (bs ++ b ∷ []) ≡ (any_set bs || not (eqb b 0))
unfolding any_set
set-push bs b = rw (set-append bs (b ∷ []), or-false)

-- two lists of bytes are clear where both numbers are zero
pub both-clear : (a b : List ℕ) → number a ≡ 0 → eqb (number b) 0 ≡ not (any_set (a ++ b))
both-clear a b e = rw (set-append a b, zero_clear a e) (by (eqb (number b) 0) refl)
  where
    by : (t : Bool) → eqb (number b) 0 ≡ t → t ≡ not (any_set b)
    by true h = rw (zero_clear b (eqb-true (number b) 0 h))
    by false h = rw (nonzero-set b (eqb-false (number b) 0 h))
