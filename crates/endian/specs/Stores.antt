-- Numbers as bytes, little-endian (01, What the product covers).
use Rattle.std.specs.Prelude.{ℕ, zero, suc, ◌+◌, ◌/◌, ◌%◌, List, [], ◌∷◌, ◌++◌}

-- the low n bytes of v, little-endian
unfoldable pub low_first : ℕ → ℕ → List ℕ
low_first zero v = []
low_first (suc n) v = v % 256 ∷ low_first n (v / 256)

-- fields of these widths with these values, one after the other
unfoldable pub fields : (widths values : List ℕ) → List ℕ
fields [] values = []
fields (w ∷ widths) [] = []
fields (w ∷ widths) (v ∷ values) = low_first w v ++ fields widths values

-- how many bytes these widths take
unfoldable pub total : List ℕ → ℕ
total [] = 0
total (w ∷ widths) = w + total widths
