-- Fields in bytes, both ways: what is stored is read, and what is read is stored again as the same bytes.
use mathlib.Core.Bool.{Bool, true, false, ◌&&◌, false≢true}
use mathlib.Core.List.{List, [], ◌∷◌, ◌++◌, append_assoc}
use mathlib.Core.Path.{◌≡◌, refl, sym, ◌∙◌, ap}
use Prim.Native.Nat.{ℕ, zero, suc, ◌+◌, ◌*◌, ◌/◌, ◌%◌, ◌^◌, ◌<◌, ◌≤◌, min}
use native.Mathlib.Nat.{pow-succ', pow-le-pow_right, lt_of_lt_of_le}
use native.Mathlib.Omega.{arith}
use borrow.Author.Tests.{leb-true}
use lib.Dec.{leb}
use lib.ListN.{length, get_or, take, drop, length-append, length-drop}
use lib.Seq.{take_at, drop_at, take-add, drop-drop, length-take-le}
use Rattle.endian.specs.Bytes.{Bytes}
use Rattle.endian.specs.Loads.{number, part, values_at}
use Rattle.endian.specs.Stores.{low_first, fields, total}
use Rattle.endian.proofs.Numbers.{below}
use Rattle.endian.proofs.Runs.{length-low}

-- one number
pub number-low : (n v : ℕ) → v < 256 ^ n → number (low_first n v) ≡ v
unfolding number low_first
number-low zero v h = omega arith
number-low (suc n) v h =
    let k : v < 256 * 256 ^ n = rw (pow-succ' 256 n) at h in
    omega (arith, number-low n (v / 256) (omega arith))

pub low-number : (l : List ℕ) → Bytes l → low_first (length l) (number l) ≡ l
unfolding number low_first
low-number [] b = refl
low-number (x ∷ l) b =
    let low : (x + 256 * number l) % 256 ≡ x = omega (arith, b.0) in
    let high : (x + 256 * number l) / 256 ≡ number l = omega (arith, b.0) in
    rw (low, high) (ap (λ m. x ∷ m) (low-number l b.1))

-- bytes, by their places; and parts of bytes are bytes
pub byte_at : (l : List ℕ) → Bytes l → (k : ℕ) → get_or l k 0 < 256
byte_at [] b k = omega arith
byte_at (x ∷ l) b zero = b.0
byte_at (x ∷ l) b (suc k) = byte_at l b.1 k

pub are-bytes : (l : List ℕ) → ((k : ℕ) → get_or l k 0 < 256) → Bytes l
are-bytes [] h = tt
are-bytes (x ∷ l) h = (h 0, are-bytes l (λ k. h (suc k)))

pub bytes_take : (n : ℕ) (l : List ℕ) → Bytes l → Bytes (take n l)
bytes_take zero l b = tt
bytes_take (suc n) [] b = tt
bytes_take (suc n) (x ∷ l) b = (b.0, bytes_take n l b.1)

pub bytes_drop : (n : ℕ) (l : List ℕ) → Bytes l → Bytes (drop n l)
bytes_drop zero l b = b
bytes_drop (suc n) [] b = tt
bytes_drop (suc n) (x ∷ l) b = bytes_drop n l b.1

-- widths of at most eight bytes, which a load takes whole
unfoldable pub narrow : List ℕ → Bool
narrow [] = true
narrow (w ∷ widths) = leb w 8 && narrow widths

narrow-first : (w : ℕ) (widths : List ℕ) → narrow (w ∷ widths) ≡ true → (w ≤ 8) × (narrow widths ≡ true)
unfolding narrow
narrow-first w widths e = by (leb w 8) refl e
  where
    by : (t : Bool) → leb w 8 ≡ t → (t && narrow widths) ≡ true → (w ≤ 8) × (narrow widths ≡ true)
    by true h k = (leb-true w 8 h, k)
    by false h k = absurd (false≢true k)

-- no value that is read has more bytes than its field
pub bounded :
    (widths bytes : List ℕ) (at : ℕ) →
    Bytes bytes →
    (k : ℕ) →
    get_or (values_at at widths bytes) k 0 < 256 ^ get_or widths k 0
unfolding values_at
bounded [] bytes at b k = omega arith
bounded (w ∷ widths) bytes at b zero =
    lt_of_lt_of_le (below (drop at bytes) (byte_at (drop at bytes) (bytes_drop at bytes b)) (min w 8))
    (pow-le-pow_right {n = 256} (omega arith) {i = min w 8} {j = w} (omega arith))
bounded (w ∷ widths) bytes at b (suc k) = bounded widths bytes (at + w) b k

-- as many values as widths, each of no more bytes than its width
infixr 60 ◌▸◌
pub data Fit : List ℕ → List ℕ → Type 0 where
  none : Fit [] []
  ◌▸◌ : {w v : ℕ} {widths values : List ℕ} → v < 256 ^ w → Fit widths values → Fit (w ∷ widths) (v ∷ values)

-- what is stored is read
read-stored :
    {widths values : List ℕ} →
    Fit widths values →
    narrow widths ≡ true →
    (before : List ℕ) (at : ℕ) →
    length before ≡ at →
    values_at at widths (before ++ fields widths values) ≡ values
unfolding fields values_at
read-stored none k before at h = refl
read-stored (◌▸◌ {w} {v} {widths} {values} small more) k before at h =
    let whole : min w 8 ≡ w = omega (arith, (narrow-first w widths k).0) in
    let rest : List ℕ = fields widths values in
    let next : length (before ++ low_first w v) ≡ at + w =
    length-append before (low_first w v) ∙ omega (arith, length-low w v)
    in
    let one : number (part at (min w 8) (before ++ (low_first w v ++ rest))) ≡ v =
    rw (whole, drop_at before (low_first w v ++ rest) at h, take_at (low_first w v) rest w (length-low w v))
    (number-low w v small)
    in
    let later : values_at (at + w) widths (before ++ (low_first w v ++ rest)) ≡ values =
    rw append_assoc at
    (read-stored more (narrow-first w widths k).1 (before ++ low_first w v) (at + w) next)
    in
    cc

pub values-back :
    {widths values : List ℕ} →
    Fit widths values →
    narrow widths ≡ true →
    values_at 0 widths (fields widths values) ≡ values
values-back fit k = read-stored fit k [] 0 refl

-- what is read is stored
pub bytes_back :
    (widths bytes : List ℕ) (at : ℕ) →
    narrow widths ≡ true →
    Bytes bytes →
    at + total widths ≤ length bytes →
    fields widths (values_at at widths bytes) ≡ part at (total widths) bytes
unfolding fields values_at total
bytes_back [] bytes at k b h = refl
bytes_back (w ∷ widths) bytes at k b h =
    let whole : min w 8 ≡ w = omega (arith, (narrow-first w widths k).0) in
    let here : List ℕ = part at w bytes in
    let n : length here ≡ w = length-take-le w (drop at bytes) (omega (arith, length-drop at bytes)) in
    let one : low_first w (number here) ≡ here =
    ap (λ m. low_first m (number here)) (sym n) ∙ low-number here (bytes_take w (drop at bytes) (bytes_drop at bytes b))
    in
    let later : fields widths (values_at (at + w) widths bytes) ≡ part (at + w) (total widths) bytes =
    bytes_back widths bytes (at + w) (narrow-first w widths k).1 b (omega arith)
    in
    rw (whole, one, later, take-add w (total widths) (drop at bytes), drop-drop w at bytes)
