-- 01, The page: a window as a block of 186 bytes; the active and the static one have the same layout. Its fields and
-- their widths are said here once, for the writer and for the reader.
use Rattle.std.specs.Prelude.{Bool, true, false, List, [], ◌∷◌, ◌++◌, ℕ, zero, suc, ◌+◌, ◌*◌, ◌-◌, ◌/◌, ◌%◌, eqb, length, get_or, replicate}
use Rattle.endian.specs.Stores.{fields}
use Rattle.window.specs.declared.fields.Window.{Window}

abbrev pub zeros : ℕ → List ℕ
zeros n = replicate n 0

-- a flag as 0 or 1
abbrev pub flag : Bool → ℕ
flag false = 0
flag true = 1

-- flags as a mask: counter n has bit n; and the first n flags of a mask
unfoldable pub bits : List Bool → ℕ
bits [] = 0
bits (b ∷ rest) = flag b + 2 * bits rest

unfoldable pub flags : ℕ → ℕ → List Bool
flags zero mask = []
flags (suc n) mask = eqb (mask % 2) 1 ∷ flags n (mask / 2)

-- a bucket's four fields: the first is reserved, and Read comes last; a counter stands in the list by its number
-- (document 01: pair number)
abbrev pub bucket_values : (counters : List ℕ) (b : ℕ) → List ℕ
bucket_values counters b =
    0 ∷ get_or counters (3 * b + 2) 0 ∷ get_or counters (3 * b + 1) 0 ∷ get_or counters (3 * b) 0 ∷ []

-- the first n buckets, bucket 0 first
unfoldable pub buckets : List ℕ → ℕ → List ℕ
buckets counters zero = []
buckets counters (suc b) = buckets counters b ++ bucket_values counters b

-- the values of the first n counters, the highest first
unfoldable pub downward : List ℕ → ℕ → List ℕ
downward values zero = []
downward values (suc n) = get_or values n 0 ∷ downward values n

-- the widths of a block's fields, and their values
abbrev pub block_widths : List ℕ
block_widths =
    replicate 16 4  -- 0-63: counters
    ++ replicate 12 8  -- 64-159: latency stamps
    ++ replicate 12 2  -- 160-183: measured latencies (document 01: shown latencies)
    ++ (2 ∷ [])  -- 184-185: stamp units (document 01: clock marks)

abbrev pub block_values : Window → List ℕ
block_values w =
    buckets w.counters 4 ++ downward w.stamps 12 ++ downward w.latencies 12 ++ (bits w.units ∷ [])

unfoldable pub block_bytes : Window → List ℕ
block_bytes w = fields block_widths (block_values w)

-- values of one width, one after the other
abbrev pub column : (width : ℕ) → List ℕ → List ℕ
column width values = fields (replicate (length values) width) values

-- the place in the block of counter n: the three of a bucket stand behind its first four bytes, Read last
abbrev pub counter_place : ℕ → ℕ
counter_place n = 16 * (n / 3) + 4 * (3 - n % 3)

-- the place of counter n's stamp, and of its measured latency: counter 11 comes first
abbrev pub stamp_place : ℕ → ℕ
stamp_place n = 64 + 8 * (11 - n)

abbrev pub latency_place : ℕ → ℕ
latency_place n = 160 + 2 * (11 - n)
