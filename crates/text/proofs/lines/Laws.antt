-- Laws of lines.
use Rattle.std.proofs.Common.{◌≡◌, ℕ, zero, suc, ◌+◌, ◌/◌, ◌%◌, ◌^◌, ◌<◌, ◌≤◌, List, [], ◌∷◌, ◌++◌, length, take, get_or, append_assoc, append-nil, arith, refl, sym}
use Rattle.std.proofs.lemmas.List.{take_more}
use Rattle.std.proofs.lemmas.Fmt.{decimal_from_appends, length-decimal-le}
use Rattle.std.specs.Fmt.{decimal as printed}
use borrow.Author.Tests.{lt-ltb, le-ltb}
use Rattle.text.specs.Lines.{digits, width_within, decimal, spaced}

-- a number's text, in at most k digits
written : (k n : ℕ) → List ℕ
written zero n = []
written (suc more) n = digits (width_within more n) n

one_digit : (k n : ℕ) → n < 10 → written (suc k) n ≡ (48 + n) ∷ []
unfolding written width_within digits
one_digit zero n h =
    let own : n % 10 ≡ n = omega arith in
    rw own
one_digit (suc k) n h =
    let own : n % 10 ≡ n = omega arith in
    rw (lt-ltb _ _ h, own)

last_digit : (k n : ℕ) → 10 ≤ n → written (suc k) n ≡ written k (n / 10) ++ ((48 + n % 10) ∷ [])
unfolding written width_within digits
last_digit zero n h = refl
last_digit (suc k) n h = rw (le-ltb _ _ h)

-- a number of 64 bits is printed as `decimal` says
pub as_printed : (n : ℕ) → n < 2 ^ 64 → printed n ≡ decimal n
unfolding decimal written
as_printed n h =
    let short = length-decimal-le 20 n (omega arith) (omega arith) h in
    sym (decimal_from_appends written (record { one = one_digit; more = last_digit }) 20 n h short)

-- numbers behind a text: none, and one more
pub spaced_none : (text : List ℕ) → text ++ spaced [] ≡ text
unfolding spaced
spaced_none text = append-nil text

spaced-append : (numbers : List ℕ) (n : ℕ) → spaced (numbers ++ (n ∷ [])) ≡ spaced numbers ++ (32 ∷ decimal n)
unfolding spaced
spaced-append [] n = simp append-nil
spaced-append (m ∷ numbers) n = rw (spaced-append numbers n) (simp append_assoc)

pub spaced_take :
    (text numbers : List ℕ) (i : ℕ) →
    i < length numbers →
    text ++ spaced (take (i + 1) numbers) ≡ (text ++ spaced (take i numbers)) ++ (32 ∷ decimal (get_or numbers i 0))
spaced_take text numbers i h = rw (take_more numbers i 0, spaced-append) (simp append_assoc)

pub ruleset numbers_steps = (spaced_none, spaced_take)
