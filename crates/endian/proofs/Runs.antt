-- Laws of runs of stores, and of the lengths of what is stored.
use mathlib.Core.List.{List, [], ◌∷◌, ◌++◌, append_assoc, append-nil}
use mathlib.Core.Path.{◌≡◌, refl, sym, ◌∙◌, ap}
use Prim.Native.Nat.{ℕ, zero, suc, ◌+◌, ◌-◌, ◌≤◌, ◌/◌, min}
use native.Mathlib.Omega.{arith}
use borrow.Rule.Slice.PartMut.{put_mid}
use lib.ListN.{length, take, drop, set, length-append, length-drop, replicate}
use lib.Seq.{sets, sets-eq, set_out, drop-length, drop-drop, length-take-le}
use Rattle.endian.specs.Stores.{low_first, fields, total}

-- one run after another is one run
pub sets-append : (l : List ℕ) (i : ℕ) (a b : List ℕ) → sets l i (a ++ b) ≡ sets (sets l i a) (i + length a) b
sets-append l i [] b =
    let p : i + 0 ≡ i = omega arith in
    rw p
sets-append l i (x ∷ a) b =
    let q : i + suc (length a) ≡ suc i + length a = omega arith in
    rw q (sets-append (set l i x) (suc i) a b)

-- past the end nothing is stored
pub sets-past : (l run : List ℕ) (i : ℕ) → length l ≤ i → sets l i run ≡ l
sets-past l [] i h = refl
sets-past l (x ∷ run) i h = rw (set_out l i x h) (sets-past l run (suc i) (omega arith))

-- a run that starts later leaves the first element
pub sets-later : (x : ℕ) (l run : List ℕ) (i : ℕ) → sets (x ∷ l) (suc i) run ≡ x ∷ sets l i run
sets-later x l [] i = refl
sets-later x l (y ∷ run) i = sets-later x (set l i y) run (suc i)

-- what has no room is left out
pub sets-room :
    (l run : List ℕ) →
    sets l 0 run ≡ take (min (length l) (length run)) run ++ drop (min (length l) (length run)) l
sets-room [] run =
    let e : min 0 (length run) ≡ 0 = omega arith in
    rw e (sets-past [] run 0 (omega arith))
sets-room (x ∷ l) [] =
    let e : min (suc (length l)) 0 ≡ 0 = omega arith in
    rw e
sets-room (x ∷ l) (y ∷ run) =
    let e : min (suc (length l)) (suc (length run)) ≡ suc (min (length l) (length run)) = omega arith in
    rw e (sets-later y l run 0 ∙ ap (λ r. y ∷ r) (sets-room l run))

-- a part that is lent and comes back filled is a run of stores
pub part-run :
    (l part run : List ℕ) (at n : ℕ) →
    at + n ≤ length l →
    length run ≡ n →
    part ≡ run →
    put_mid at n l part ≡ sets l at run
part-run l part run at n h k e =
    let b : at + length run ≤ length l = omega arith in
    rw (e, sets-eq run l at b, append_assoc, drop-drop, k)

-- a run is stored where the run before it ends
pub run_more :
    (l cur next before run : List ℕ) (base at : ℕ) →
    at ≡ base + length before →
    cur ≡ sets l base before →
    next ≡ sets cur at run →
    next ≡ sets l base (before ++ run)
run_more l cur next before run base at p e e' = e' ∙ rw (e, p) (sym (sets-append l base before run))

-- the first run of what is left to store
pub run-left :
    (cur next goal run rest : List ℕ) (at after : ℕ) →
    after ≡ at + length run →
    sets cur at (run ++ rest) ≡ goal →
    next ≡ sets cur at run →
    sets next after rest ≡ goal
run-left cur next goal run rest at after p e e' = rw (e', p) (sym (sets-append cur at run rest) ∙ e)

-- a run that covers the whole list leaves nothing of it
pub sets-whole : {A : Type 0} (l run : List A) → length run ≡ length l → sets l 0 run ≡ run
sets-whole l run h =
    let b : 0 + length run ≤ length l = omega arith in
    let n : 0 + length run ≡ length l = omega arith in
    sets-eq run l 0 b ∙ rw (n, drop-length) (append-nil run)

-- a number
pub length-low : (n v : ℕ) → length (low_first n v) ≡ n
unfolding low_first
length-low zero v = refl
length-low (suc n) v = ap suc (length-low n (v / 256))

pub low_zeros : (n : ℕ) → low_first n 0 ≡ replicate n 0
unfolding low_first
low_zeros zero = refl
low_zeros (suc n) = rw (low_zeros n)

-- a part from a place to an end, k bytes, filled with a number or with a run
part_length : (l : List ℕ) (at end k : ℕ) → end - at ≡ k → at + k ≤ length l → length (take (end - at) (drop at l)) ≡ k
part_length l at end k e h = rw e (length-take-le k (drop at l) (omega (arith, length-drop at l)))

pub put-part :
    (l part : List ℕ) (at end k v : ℕ) →
    end - at ≡ k →
    at + k ≤ length l →
    part ≡ low_first (length (take (end - at) (drop at l))) v →
    put_mid at (end - at) l part ≡ sets l at (low_first k v)
put-part l part at end k v e h p =
    let n = part_length l at end k e h in
    rw e (part-run l part (low_first k v) at k h (length-low k v) (p ∙ rw n))

pub run-part :
    (l part run : List ℕ) (at end k : ℕ) →
    end - at ≡ k →
    at + k ≤ length l →
    length run ≡ k →
    part ≡ sets (take (end - at) (drop at l)) 0 run →
    put_mid at (end - at) l part ≡ sets l at run
run-part l part run at end k e h m p =
    let n = part_length l at end k e h in
    let whole : sets (take (end - at) (drop at l)) 0 run ≡ run = sets-whole _ run (m ∙ sym n) in
    rw e (part-run l part run at k h m (p ∙ whole))

-- as many values as widths
pub length_fields :
    (widths values : List ℕ) →
    length widths ≡ length values →
    length (fields widths values) ≡ total widths
unfolding fields total
length_fields [] [] h = refl
length_fields [] (v ∷ values) h = refl
length_fields (w ∷ widths) [] h = absurd (omega arith)
length_fields (w ∷ widths) (v ∷ values) h =
    length-append (low_first w v) (fields widths values)
    ∙ omega (arith, length-low w v, length_fields widths values (omega arith))
