-- 01, The page program: the line of what is refused; and a number alone.
use Rattle.std.specs.Prelude.{cond, List, [], ◌∷◌, ◌++◌, ℕ, zero, suc, ◌+◌, ◌/◌, ◌%◌, ltb}

-- the last k decimal digits of n as ASCII bytes, the highest first
unfoldable pub digits : (k n : ℕ) → List ℕ
digits zero n = []
digits (suc k) n = digits k (n / 10) ++ ((48 + n % 10) ∷ [])

-- how many digits n has: one, and at most so many more
unfoldable pub width_within : (more n : ℕ) → ℕ
width_within zero n = 1
width_within (suc more) n = cond (ltb n 10) 1 (suc (width_within more (n / 10)))

-- a number in decimal, with no zero in front; one of 64 bits has at most 20 digits
unfoldable pub decimal : ℕ → List ℕ
decimal n = digits (width_within 19 n) n

-- each number behind a space
unfoldable pub spaced : List ℕ → List ℕ
spaced [] = []
spaced (n ∷ numbers) = (32 ∷ decimal n) ++ spaced numbers

-- `refused`
unfoldable pub refused_word : List ℕ
refused_word = 114 ∷ 101 ∷ 102 ∷ 117 ∷ 115 ∷ 101 ∷ 100 ∷ []

-- the word, the numbers, newline
unfoldable pub refused_line : List ℕ → List ℕ
refused_line numbers = refused_word ++ spaced numbers ++ (10 ∷ [])

-- 02, Ticket 5: a number alone, newline
unfoldable pub number_line : ℕ → List ℕ
number_line n = decimal n ++ (10 ∷ [])
