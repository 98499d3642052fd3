-- How long a program reads on.
use Rattle.std.specs.Prelude.{Bool, ◌&&◌, ℕ, eqb}

-- the next block is read exactly if it is wanted and the last one, of n bytes, was whole: one that was not ended the
-- input
unfoldable pub goes_on : (n : ℕ) (wanted : Bool) → Bool
goes_on n wanted = wanted && eqb n 65536
