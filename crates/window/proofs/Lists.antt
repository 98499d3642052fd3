-- Laws of lists and of tests, which know nothing of the page.
use mathlib.Core.Bool.{Bool, true, false, false≢true}
use mathlib.Core.List.{List, [], ◌∷◌}
use mathlib.Core.Path.{◌≡◌, refl, sym, ap, subst, ◌∙◌}
use denote.Param.Members.{Mut, Called}
use native.Mathlib.Decide.{dec_lt}
use Rattle.std.specs.Array.{IsFromFnResultFrom, IsFromFnResult}
use Prim.Native.Nat.{ℕ, zero, suc, ◌+◌, ◌*◌, ◌/◌, ◌%◌, ◌^◌, ◌<◌, ◌≤◌}
use native.Mathlib.Nat.{pow-succ'}
use native.Mathlib.Omega.{arith}
use borrow.Author.Tests.{eqb-true, eqb-false}
use lib.Dec.{eqb}
use lib.ListN.{length, get_or}
use Rattle.window.specs.Tests.{passes, all}
use Rattle.window.specs.Block.{flag, bits, flags}
use Rattle.window.specs.Fields.{from, each}

-- a list is the list of its entries
from-later :
    {A : Type 0} (x d : A) (l : List A) (i n : ℕ) →
    from (suc i) n (λ k. get_or (x ∷ l) k d) ≡ from i n (λ k. get_or l k d)
unfolding from
from-later x d l i zero = refl
from-later x d l i (suc n) = ap (λ t. get_or l i d ∷ t) (from-later x d l (suc i) n)

pub entries : {A : Type 0} (d : A) (l : List A) → from 0 (length l) (λ k. get_or l k d) ≡ l
unfolding from
entries d [] = refl
entries d (x ∷ l) = ap (λ t. x ∷ t) (from-later x d l 0 (length l) ∙ entries d l)

pub twelve : {A : Type 0} (d : A) (l : List A) → length l ≡ 12 → each (λ k. get_or l k d) ≡ l
twelve d l h = rw h at (entries d l)

-- a list of twelve, by what stands at each place
from-same :
    {A : Type 0} (f g : ℕ → A) (i n : ℕ) →
    ((k : ℕ) → i ≤ k → k < i + n → f k ≡ g k) →
    from i n f ≡ from i n g
unfolding from
from-same f g i zero h = refl
from-same f g i (suc n) h =
    rw (h i (omega arith) (omega arith)) (ap (λ t. g i ∷ t) (from-same f g (suc i) n (λ k l m. h k (omega arith) (omega arith))))

pub each-at :
    {A : Type 0} (f : ℕ → A) (l : List A) (d : A) →
    length l ≡ 12 →
    ((k : ℕ) → k < 12 → get_or l k d ≡ f k) →
    l ≡ each f
each-at f l d e h = sym (twelve d l e) ∙ from-same (λ k. get_or l k d) f 0 12 (λ k a b. h k (omega arith))

-- an array that was made by index, of calls that leave the closure as it was
module _ {F A : Type 0} (g : Mut F (ℕ × Unit {0}) A) (f : F) (h : ℕ → A) (d : A)
    (call : (k : ℕ) (x : A) (q : F) → Called g f (k, tt) x q → (x ≡ h k) × (q ≡ f)) where
  made-from :
      (l : List A) (i n : ℕ) →
      IsFromFnResultFrom g f l i n →
      (k : ℕ) →
      i ≤ k →
      k < i + n →
      get_or l k d ≡ h k
  made-from l i zero m k a b = absurd (omega arith)
  made-from l i (suc n) m k a b =
      let made = call i m.1 m.0 m.3 in
      let next : i + 1 ≡ suc i = omega arith in
      let rest : IsFromFnResultFrom g f l (i + 1) n = subst (λ q. IsFromFnResultFrom g q l (i + 1) n) made.1 m.4 in
      by (dec_lt i k) (made-from l (i + 1) n rest k)
    where
      by :
          Dec (i < k) →
          (i + 1 ≤ k → k < i + 1 + n → get_or l k d ≡ h k) →
          get_or l k d ≡ h k
      by (yes p) later = later (omega arith) (omega arith)
      by (no p) later =
          let e : k ≡ i = omega arith in
          rw e (m.2.1 d ∙ (call i m.1 m.0 m.3).0)

  pub made-each : (l : List A) → IsFromFnResult g f l 12 → l ≡ each h
  made-each l m = each-at h l d m.long (λ k b. made-from l 0 12 m.each k (omega arith) (omega arith))

-- tests that all pass
passed-before : (so_far : Bool) (tests : List Bool) → passes so_far tests ≡ true → so_far ≡ true
passed-before true tests e = refl
passed-before false [] e = e
passed-before false (t ∷ tests) e = passed-before false tests e

pub passed : (tests : List Bool) → all tests ≡ true → (k : ℕ) → get_or tests k true ≡ true
passed [] e k = refl
passed (t ∷ tests) e zero = passed-before t tests e
passed (true ∷ tests) e (suc k) = passed tests e k
passed (false ∷ tests) e (suc k) = absurd (false≢true (passed-before false tests e))

pub all_pass : (test : ℕ → Bool) (i n : ℕ) → ((k : ℕ) → i ≤ k → k < i + n → test k ≡ true) → all (from i n test) ≡ true
unfolding from
all_pass test i zero h = refl
all_pass test i (suc n) h =
    rw (h i (omega arith) (omega arith)) (all_pass test (suc i) n (λ k l m. h k (omega arith) (omega arith)))

-- a flag as a number, and back
pub flag-back : (b : Bool) → eqb (flag b) 1 ≡ b
flag-back true = refl
flag-back false = refl

pub flag-again : (v : ℕ) → v < 2 → flag (eqb v 1) ≡ v
flag-again v h = by (eqb v 1) refl
  where
    by : (t : Bool) → eqb v 1 ≡ t → flag t ≡ v
    by true e = omega (arith, eqb-true v 1 e)
    by false e =
        let z : v ≡ 0 = by-parity v h (eqb-false v 1 e) in
        omega arith
      where
        by-parity : (v : ℕ) → v < 2 → (v ≡ 1 → ⊥) → v ≡ 0
        by-parity v h n = omega arith

-- a mask's flags, and back
pub flags-back : (units : List Bool) → flags (length units) (bits units) ≡ units
unfolding flags bits
flags-back [] = refl
flags-back (b ∷ units) =
    let low : (flag b + 2 * bits units) % 2 ≡ flag b = omega (arith, flag-below b) in
    let high : (flag b + 2 * bits units) / 2 ≡ bits units = omega (arith, flag-below b) in
    rw (low, high, flag-back b) (ap (λ t. b ∷ t) (flags-back units))
  where
    flag-below : (b : Bool) → flag b < 2
    flag-below true = omega arith
    flag-below false = omega arith

pub bits-again : (n mask : ℕ) → mask < 2 ^ n → bits (flags n mask) ≡ mask
unfolding flags bits
bits-again zero mask h = omega arith
bits-again (suc n) mask h =
    let k : mask < 2 * 2 ^ n = rw (pow-succ' 2 n) at h in
    omega (arith, flag-again (mask % 2) (omega arith), bits-again n (mask / 2) (omega arith))
