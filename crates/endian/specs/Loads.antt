-- Bytes as numbers.
use Rattle.std.specs.Prelude.{ℕ, ◌+◌, ◌*◌, min, List, [], ◌∷◌, take, drop}

-- 01, What the product covers: the number that bytes make, little-endian
unfoldable pub number : List ℕ → ℕ
number [] = 0
number (b ∷ bs) = b + 256 * number bs

-- so many bytes from a place on
abbrev pub part : (at n : ℕ) → List ℕ → List ℕ
part at n bytes = take n (drop at bytes)

-- fields of these widths, one after the other from a place on, each as the number of its bytes (of the first eight, if
-- it has more)
unfoldable pub values_at : ℕ → (widths bytes : List ℕ) → List ℕ
values_at at [] bytes = []
values_at at (w ∷ widths) bytes = number (part at (min w 8) bytes) ∷ values_at (at + w) widths bytes
