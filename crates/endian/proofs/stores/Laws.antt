-- Laws of stores: what is left to store, stored from here, gives the whole.
use mathlib.Core.List.{List, [], ◌∷◌, ◌++◌, append_assoc}
use mathlib.Core.Path.{◌≡◌, refl, sym, ◌∙◌, ap}
use Prim.Native.Nat.{ℕ, zero, suc, ◌+◌, ◌-◌, ◌<◌, ◌≤◌, ◌/◌, ◌%◌, ◌^◌, min}
use native.Mathlib.Decide.{dec_lt}
use native.Mathlib.Nat.{not-suc-le-zero, div-one, div-div-eq-div-mul, pow-suc, pow-succ'}
use native.Mathlib.Numerals.{add-one}
use native.Mathlib.Omega.{arith}
use borrow.Rule.Slice.PartMut.{put_mid}
use lib.ListN.{length, take, drop, get_or, drop_of_length-le, take-append-drop, length-take, length-drop, replicate}
use lib.Seq.{sets, drop-cons, length-sets}
use Rattle.endian.specs.Stores.{low_first, fields}
use Rattle.std.specs.Int.{w64, byte_at, bytes_low_first, to_le_bytes}
use Rattle.endian.proofs.Runs.{sets-append, sets-past, sets-later, part-run, length-low, low_zeros}

-- the bytes of a number, as the library lists them
low_bytes : (i n v : ℕ) → bytes_low_first i n v ≡ low_first n (v / 256 ^ i)
unfolding low_first
low_bytes i zero v = refl
low_bytes i (suc n) v =
    let later : v / 256 ^ suc i ≡ v / 256 ^ i / 256 = rw (div-div-eq-div-mul v (256 ^ i) 256, pow-suc 256 i) in
    rw (low_bytes (suc i) n v, later) (ap (λ b. b ∷ low_first n (v / 256 ^ i / 256)) (here i))
  where
    here : (i : ℕ) → byte_at i v ≡ v / 256 ^ i % 256
    here zero = rw div-one
    here (suc i) = refl

-- a number's bytes over zeros
zeros-filled : (k n v : ℕ) → v < 256 ^ k → sets (replicate n 0) 0 (low_first k v) ≡ low_first n v
unfolding low_first
zeros-filled zero n v h =
    let z : v ≡ 0 = omega arith in
    rw z (sym (low_zeros n))
zeros-filled (suc k) zero v h = sets-past [] (low_first (suc k) v) 0 (omega arith)
zeros-filled (suc k) (suc n) v h =
    let later : v / 256 < 256 ^ k = omega (arith, rw (pow-succ' 256 k) at h) in
    sets-later (v % 256) (replicate n 0) (low_first k (v / 256)) 0 ∙ ap (λ l. v % 256 ∷ l) (zeros-filled k n (v / 256) later)

pub number_put :
    (s zeros bytes filled : List ℕ) (v : ℕ) →
    v < 2 ^ 64 →
    zeros ≡ replicate (length s) 0 →
    bytes ≡ to_le_bytes w64 v →
    filled ≡ sets zeros 0 bytes →
    filled ≡ low_first (length s) v
number_put s zeros bytes filled v h z b f =
    let e : bytes ≡ low_first 8 v = b ∙ low_bytes 0 8 v ∙ rw div-one in
    f ∙ rw (z, e) (zeros-filled 8 (length s) v h)

-- the first bytes of a number
low-take : (k n v : ℕ) → k ≤ n → take k (low_first n v) ≡ low_first k v
unfolding low_first
low-take zero n v h = refl
low-take (suc k) zero v h = absurd (not-suc-le-zero h)
low-take (suc k) (suc n) v h = ap (λ l. v % 256 ∷ l) (low-take k n (v / 256) (omega arith))

-- a field and the fields after it, from a place on: what has no room is left out
cut_field :
    (s rest : List ℕ) (place w v end : ℕ) →
    place ≤ length s →
    end ≡ min (place + w) (length s) →
    sets s place (low_first w v ++ rest) ≡ sets (sets s place (low_first (end - place) v)) end rest
cut_field s rest place w v end h e = by (dec_lt (length s) (place + w))
  where
    by :
        Dec (length s < place + w) →
        sets s place (low_first w v ++ rest) ≡ sets (sets s place (low_first (end - place) v)) end rest
    by (no k) =
        let all : end - place ≡ w = omega arith in
        let p : end ≡ place + length (low_first w v) = omega (arith, length-low w v) in
        rw (all, p) (sets-append s place (low_first w v) rest)
    by (yes k) =
        let room : ℕ = end - place in
        let more : List ℕ = drop room (low_first w v) in
        let parts : low_first w v ≡ low_first room v ++ more =
        sym (take-append-drop room (low_first w v)) ∙ rw (low-take room w v (omega arith))
        in
        let p : place + length (low_first room v) ≡ length s = omega (arith, length-low room v) in
        let full = length-sets s place (low_first room v) in
        rw (parts, append_assoc, sets-append s place (low_first room v) (more ++ rest), p)
        (sets-past (sets s place (low_first room v)) (more ++ rest) (length s) (omega arith)
        ∙ sym (sets-past (sets s place (low_first room v)) rest end (omega arith)))

fields-nil : (widths : List ℕ) → fields widths [] ≡ []
unfolding fields
fields-nil [] = refl
fields-nil (w ∷ widths) = refl

-- fields, from the i-th on
module _ (widths values : List ℕ) (i : ℕ) where
  pub fields-more :
      (s filled goal : List ℕ) (place end : ℕ) →
      i < min (length widths) (length values) →
      place ≤ length s →
      end ≡ min (place + get_or widths i 0) (length s) →
      sets s place (fields (drop i widths) (drop i values)) ≡ goal →
      filled ≡ low_first (length (take (end - place) (drop place s))) (get_or values i 0) →
      sets (put_mid place (end - place) s filled) end (fields (drop (i + 1) widths) (drop (i + 1) values)) ≡ goal
  unfolding fields
  fields-more s filled goal place end h p q e e' =
      let w : ℕ = get_or widths i 0 in
      let v : ℕ = get_or values i 0 in
      let rest : List ℕ = fields (drop (i + 1) widths) (drop (i + 1) values) in
      let n : length (take (end - place) (drop place s)) ≡ end - place =
      length-take (end - place) (drop place s) ∙ omega (arith, length-drop place s)
      in
      let f : fields (drop i widths) (drop i values) ≡ low_first w v ++ rest =
      rw (add-one, drop-cons widths i 0 (omega arith), drop-cons values i 0 (omega arith))
      in
      rw (part-run s filled _ place (end - place) (omega arith) (length-low _ v) (rw n at e'))
      (sym (cut_field s rest place w v end p q) ∙ rw f at e)

  pub fields-end :
      (s goal : List ℕ) (place : ℕ) →
      min (length widths) (length values) ≤ i →
      sets s place (fields (drop i widths) (drop i values)) ≡ goal →
      s ≡ goal
  unfolding fields
  fields-end s goal place h e = by (dec_lt i (length widths))
    where
      by : Dec (i < length widths) → s ≡ goal
      by (no k) = rw (drop_of_length-le widths {i = i} (omega arith)) at e
      by (yes k) = rw (drop_of_length-le values {i = i} (omega arith), fields-nil) at e
