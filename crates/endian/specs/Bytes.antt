-- Bytes as numbers.
use Rattle.std.specs.Prelude.{ℕ, ◌+◌, ◌*◌, ◌<◌, Bool, false, not, ◌||◌, List, [], ◌∷◌, eqb}

-- a list of bytes
abbrev pub Bytes : List ℕ → Type 0
Bytes [] = Unit {0}
Bytes (b ∷ bs) = (b < 256) × Bytes bs

-- 01, What the product covers: a number of two bytes, the low byte first
abbrev pub word : ℕ → ℕ → ℕ
word low high = low + 256 * high

-- whether any of the bytes is other than zero
unfoldable pub any_set : List ℕ → Bool
any_set [] = false
any_set (b ∷ bs) = not (eqb b 0) || any_set bs
