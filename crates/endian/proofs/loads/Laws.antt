-- Laws of loads: fields, one after the other.
use mathlib.Core.List.{List, [], ◌∷◌}
use mathlib.Core.Path.{◌≡◌, refl, sym, ap, ◌∙◌}
use Prim.Native.Nat.{ℕ, zero, suc, ◌+◌, ◌-◌, ◌*◌, ◌<◌, ◌≤◌, min}
use native.Mathlib.Nat.{pow-succ'}
use native.Mathlib.Decide.{dec_lt}
use native.Mathlib.Numerals.{add-one}
use native.Mathlib.Omega.{arith}
use lib.ListN.{length, set, take, drop, get_or, drop_of_length-le, length-take, length-drop, replicate}
use Rattle.std.proofs.lemmas.List.{take_min}
use lib.Seq.{sets, length-sets, drop-cons, take_all, take-nil, take-take}
use Rattle.std.specs.Int.{w64, byte_worth, sum_through, from_le_bytes}
use Rattle.endian.specs.Loads.{number, part, values_at}
use Rattle.endian.specs.Stores.{total}
use Rattle.endian.proofs.Runs.{sets-past, sets-later}

-- the number of so many bytes is what each is worth
worth_more : (i b : ℕ) → 256 * byte_worth i b ≡ byte_worth (suc i) b
worth_more zero b = omega arith
worth_more (suc i) b = rw (pow-succ' 256 (suc i)) (omega arith)

last-worth : (n : ℕ) (l : List ℕ) → number (take (suc n) l) ≡ number (take n l) + byte_worth n (get_or l n 0)
unfolding number
last-worth zero [] = refl
last-worth zero (b ∷ bs) = omega arith
last-worth (suc n) [] = omega arith
last-worth (suc n) (b ∷ bs) = omega (arith, last-worth n bs, worth_more n (get_or bs n 0))

sum-number : (n : ℕ) (l : List ℕ) → sum_through (λ i. byte_worth i (get_or l i 0)) n ≡ number (take (suc n) l)
unfolding number
sum-number zero l = omega (arith, last-worth zero l)
sum-number (suc n) l = rw (sum-number n l) (sym (last-worth (suc n) l))

-- bytes over zeros
zero-number : (n : ℕ) → number (replicate n 0) ≡ 0
unfolding number
zero-number zero = refl
zero-number (suc n) = omega (arith, zero-number n)

filled-number : (n : ℕ) (s : List ℕ) → number (sets (replicate n 0) 0 s) ≡ number (take n s)
unfolding number
filled-number zero s = rw (sets-past [] s 0 (omega arith))
filled-number (suc n) [] = zero-number (suc n)
filled-number (suc n) (b ∷ s) = rw (sets-later b (replicate n 0) s 0, filled-number n s)

pub number_loaded :
    (s bytes : List ℕ) (v : ℕ) →
    bytes ≡ sets (replicate 8 0) 0 s →
    v ≡ from_le_bytes w64 bytes →
    v ≡ number (take 8 s)
number_loaded s bytes v e k =
    let n : length bytes ≡ 8 = ap length e ∙ length-sets (replicate 8 0) 0 s in
    k ∙ sum-number 7 bytes ∙ ap number (take_all 8 bytes (omega arith) ∙ e) ∙ filled-number 8 s

-- what is taken of a list's first elements
take_twice : (m n : ℕ) (l : List ℕ) → take m (take n l) ≡ take (min m n) l
take_twice m n l = by (dec_lt n m)
  where
    by : Dec (n < m) → take m (take n l) ≡ take (min m n) l
    by (no h) =
        let e : min m n ≡ m = omega arith in
        rw e (take-take m n l (omega arith))
    by (yes h) =
        let e : min m n ≡ n = omega arith in
        rw e (take_all m (take n l) (omega (arith, length-take n l)))

mins : (w n : ℕ) → min (min 8 (min w n)) n ≡ min (min w 8) n
mins w n = omega arith

room : (at w n end : ℕ) → at < n → end ≡ min (at + w) n → end - at ≡ min w (n - at)
room at w n end h e = omega arith

-- a field's bytes, at a place that is held at the slice's end
field-loaded :
    (s : List ℕ) (at w place end : ℕ) →
    place ≡ min at (length s) →
    end ≡ min (place + w) (length s) →
    take 8 (take (end - place) (drop place s)) ≡ part at (min w 8) s
field-loaded s at w place end p q = by (dec_lt at (length s))
  where
    by : Dec (at < length s) → take 8 (take (end - place) (drop place s)) ≡ part at (min w 8) s
    by (no h) =
        rw (
          drop_of_length-le s {i = place} (omega arith),
          drop_of_length-le s {i = at} (omega arith),
          take-nil (end - place),
          take-nil (min w 8),
        )
    by (yes h) =
        let here : place ≡ at = omega arith in
        let rest : List ℕ = drop at s in
        let n : end - at ≡ min w (length rest) = rw (length-drop at s) (room at w (length s) end h (rw here at q)) in
        rw (here, n)
        (take_twice 8 (min w (length rest)) rest ∙ sym (take_min (min 8 (min w (length rest))) rest) ∙
        rw (mins w (length rest)) (take_min (min w 8) rest))

total-take :
    (widths : List ℕ) (i : ℕ) →
    i < length widths →
    total (take (suc i) widths) ≡ total (take i widths) + get_or widths i 0
unfolding total
total-take [] i h = absurd (omega arith)
total-take (w ∷ widths) zero h = omega arith
total-take (w ∷ widths) (suc i) h = omega (arith, total-take widths i (omega arith))

-- fields, from the i-th on
module _ (s widths : List ℕ) (i : ℕ) where
  abbrev at : ℕ
  at = total (take i widths)

  pub values-more :
      (values goal : List ℕ) (place end v : ℕ) →
      i < length widths →
      place ≡ min at (length s) →
      end ≡ min (place + get_or widths i 0) (length s) →
      v ≡ number (take 8 (take (end - place) (drop place s))) →
      sets values i (values_at at (drop i widths) s) ≡ goal →
      sets (set values i v) (i + 1) (values_at (total (take (i + 1) widths)) (drop (i + 1) widths) s) ≡ goal
  unfolding values_at
  values-more values goal place end v h p q e k =
      rw (add-one, total-take widths i h, e, field-loaded s at (get_or widths i 0) place end p q)
      (rw (drop-cons widths i 0 h) at k)

  pub place-more :
      (place end : ℕ) →
      i < length widths →
      place ≡ min at (length s) →
      end ≡ min (place + get_or widths i 0) (length s) →
      end ≡ min (total (take (i + 1) widths)) (length s)
  place-more place end h p q = rw add-one (omega (arith, total-take widths i h))

  pub values-end :
      (values goal : List ℕ) →
      min (length widths) (length values) ≤ i →
      sets values i (values_at at (drop i widths) s) ≡ goal →
      values ≡ goal
  unfolding values_at
  values-end values goal h e = by (dec_lt i (length widths))
    where
      by : Dec (i < length widths) → values ≡ goal
      by (no k) = rw (drop_of_length-le widths {i = i} (omega arith)) at e
      by (yes k) = sym (sets-past values (values_at at (drop i widths) s) i (omega arith)) ∙ e
