-- 01, The page program: a page in hex, without its last two rows, which hold version and GUID.
use Rattle.std.specs.Prelude.{ℕ, zero, suc, ◌+◌, ◌*◌, ◌/◌, ◌%◌, cond, List, [], ◌∷◌, ◌++◌, ltb, take, drop}
use Rattle.endian.specs.Bytes.{any_set}

-- a hex digit as its ASCII byte: 48 to 57 for 0 to 9, and capitals, 65 to 70, for 10 to 15
unfoldable pub hex_digit : ℕ → ℕ
hex_digit d = cond (ltb d 10) (48 + d) (55 + d)

-- where a row begins, and what parts it from its bytes
unfoldable pub hex_offset : ℕ → List ℕ
hex_offset offset =
    hex_digit (offset / 256 % 16) ∷ hex_digit (offset / 16 % 16) ∷ hex_digit (offset % 16) ∷ 58 ∷ 32 ∷ []

-- each byte as two digits, the high one first
unfoldable pub hex_bytes : List ℕ → List ℕ
hex_bytes [] = []
hex_bytes (b ∷ bs) = hex_digit (b / 16) ∷ hex_digit (b % 16) ∷ hex_bytes bs

-- a row as a line
unfoldable pub line : ℕ → List ℕ → List ℕ
line offset row = hex_offset offset ++ hex_bytes row ++ (10 ∷ [])

-- a row of zeros has no line
unfoldable pub shown_line : ℕ → List ℕ → List ℕ
shown_line offset row = cond (any_set row) (line offset row) []

-- the row at an offset
unfoldable pub line_at : List ℕ → ℕ → List ℕ
line_at page offset = shown_line offset (take 16 (drop offset page))

-- the lines of the first n rows
unfoldable pub lines : List ℕ → ℕ → List ℕ
lines page zero = []
lines page (suc n) = lines page n ++ line_at page (16 * n)

-- thirty rows
unfoldable pub text_of : List ℕ → List ℕ
text_of page = lines page 30
