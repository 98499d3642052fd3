-- Where something may be turned away: the rows of a table, one after the other.
use Rattle.std.specs.Prelude.{Bool, true, false, ℕ, Option, Some}

-- 01, Where a call is turned away: a row's number if its test says so, else what the rows after it say
abbrev pub row : ℕ → Bool → Option ℕ → Option ℕ
row n true later = Some n
row n false later = later
