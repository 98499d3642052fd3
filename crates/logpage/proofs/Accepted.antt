-- What is accepted is written again as the same bytes.
use mathlib.Core.Bool.{Bool, true, false, not, cond, true≢false}
use mathlib.Core.List.{List, [], ◌∷◌, ◌++◌}
use Rattle.std.specs.Prelude.{None}
use mathlib.Core.Path.{◌≡◌, refl, sym, ◌∙◌}
use Prim.Native.Nat.{ℕ, ◌+◌, ◌≤◌}
use native.Mathlib.Omega.{arith}
use borrow.Author.Tests.{eqb-true, ltb-true, not-true, not-false}
use lib.Count.{ones}
use lib.Dec.{eqb, ltb}
use lib.ListN.{length, get_or, drop, length-drop}
use lib.Seq.{take_all, take-add, drop-drop, length-take-le}
use Rattle.endian.specs.Bytes.{Bytes}
use Rattle.endian.specs.Loads.{part, values_at}
use Rattle.endian.specs.Stores.{fields, total}
use Rattle.endian.proofs.Layouts.{narrow, bytes_take, bytes_drop, bytes_back}
use Rattle.window.specs.Block.{zeros, block_bytes}
use Rattle.window.specs.BlockReader.{window_in, of_twelve, clear, block_keeps}
use Rattle.logpage.specs.Claims.{WrittenAgain, SourceOfCounter}
use Rattle.window.specs.Fields.{unset}
use Rattle.logpage.specs.Page.{head_widths, head_values, head_bytes, windows_bytes, tail_widths, tail_values, tail_bytes}
use Rattle.logpage.specs.Page.{identity_widths, identity_values, page_bytes}
use Rattle.logpage.specs.Reader.{head_in, tail_in, identity_in, settings_from, debug_from, fields_in, head_fits}
use Rattle.logpage.specs.Reader.{tail_fits, holds_debug, debug_counter_of, debug_fits, page_keeps, page_fits, identified, read_refusal}
use Rattle.logpage.proofs.OneBit.{source-bit}
use Rattle.logpage.proofs.Rows.{no_row}
use Rattle.window.proofs.Lists.{passed, flag-again}
use Rattle.window.proofs.Accepted.{clear-part, block-again}

-- a part in two
split-part : (l : List ℕ) (at n m : ℕ) → part at (n + m) l ≡ part at n l ++ part (at + n) m l
split-part l at n m = take-add n m (drop at l) ∙ rw (drop-drop n at l)

-- what an accepted page keeps
module _ (page : List ℕ) (ok : read_refusal page ≡ None) where
  rows :
      (not (eqb (length page) 512) ≡ false) × (not (identified page) ≡ false) × (not (page_fits page) ≡ false)
  unfolding read_refusal
  rows =
      let first = no_row 13 _ _ ok in
      let second = no_row 14 _ _ first.1 in
      (first.0, second.0, (no_row 15 _ _ second.1).0)

  whole : length page ≡ 512
  whole = eqb-true (length page) 512 (not-false (eqb (length page) 512) rows.0)

  abbrev page-rules : List Bool
  page-rules =
      block_keeps (part 32 186 page) (window_in (part 32 186 page))
      ∷ block_keeps (part 240 186 page) (window_in (part 240 186 page))
      ∷ head_fits (head_in page)
      ∷ tail_fits (tail_in page)
      ∷ clear 13 19 page
      ∷ clear 218 22 page
      ∷ clear 426 22 page
      ∷ clear 465 29 page
      ∷ []

  page-rule : (k : ℕ) → get_or page-rules k true ≡ true
  unfolding page_keeps
  page-rule = passed page-rules (not-false (page_fits page) rows.2)

  abbrev tail-rules : List Bool
  tail-rules =
      of_twelve (get_or (tail_in page) 0 0)
      ∷ eqb (get_or (tail_in page) 3 0) 0
      ∷ ltb (get_or (tail_in page) 5 0) 2
      ∷ debug_fits (debug_from (tail_in page))
      ∷ []

  pub tail-rule : (k : ℕ) → get_or tail-rules k true ≡ true
  tail-rule = passed tail-rules (page-rule 3)

  identity-same : identity_in page ≡ identity_values
  unfolding identified values_at
  identity-same =
      let found : ℕ → ℕ = λ k. get_or (identity_in page) k 0 in
      let same : ℕ → Bool = λ k. eqb (found k) (get_or identity_values k 0) in
      let r = passed (same 0 ∷ same 1 ∷ same 2 ∷ []) (not-false (identified page) rows.1) in
      let e : (k : ℕ) → same k ≡ true → found k ≡ get_or identity_values k 0 =
      λ k. eqb-true (found k) (get_or identity_values k 0)
      in
      rw (e 0 (r 0), e 1 (r 1), e 2 (r 2))

  head-same : head_values (settings_from (head_in page) (tail_in page)) (get_or (head_in page) 2 0) ≡ head_in page
  unfolding values_at
  head-same =
      let h : ℕ → ℕ = λ k. get_or (head_in page) k 0 in
      let r = passed (ltb (h 0) 2 ∷ eqb (h 1) 0 ∷ of_twelve (h 8) ∷ []) (page-rule 2) in
      rw (flag-again (h 0) (ltb-true _ _ (r 0)), eqb-true (h 1) 0 (r 1))

  tail-same : tail_values (get_or (tail_in page) 0 0) (debug_from (tail_in page)) ≡ tail_in page
  unfolding values_at
  tail-same =
      let t : ℕ → ℕ = λ k. get_or (tail_in page) k 0 in
      rw (flag-again (t 5) (ltb-true _ _ (tail-rule 2)), eqb-true (t 3) 0 (tail-rule 1))

  module _ (b : Bytes page) where
    -- fields that are read from a part, stored again
    part-again :
        (widths values : List ℕ) (at n : ℕ) →
        at + n ≤ 512 →
        narrow widths ≡ true →
        total widths ≡ n →
        values ≡ values_at 0 widths (part at n page) →
        fields widths values ≡ part at n page
    part-again widths values at n h k m e =
        let l : length (part at n page) ≡ n =
        length-take-le n (drop at page) (omega (arith, length-drop at page, whole))
        in
        rw e
        (bytes_back widths (part at n page) 0 k (bytes_take n (drop at page) (bytes_drop at page b)) (omega arith)
        ∙ rw m (take_all n (part at n page) (omega arith)))

    zeros-again : (at n : ℕ) → at + n ≤ 512 → clear at n page ≡ true → zeros n ≡ part at n page
    zeros-again at n h e = sym (clear-part page at n (omega (arith, whole)) e)

    window-again :
        (at : ℕ) →
        at + 186 ≤ 512 →
        block_keeps (part at 186 page) (window_in (part at 186 page)) ≡ true →
        block_bytes (window_in (part at 186 page)) ≡ part at 186 page
    window-again at h =
        block-again (part at 186 page) (bytes_take 186 (drop at page) (bytes_drop at page b))
        (length-take-le 186 (drop at page) (omega (arith, length-drop at page, whole)))

    page-again : page_bytes (fields_in page) ≡ page
    unfolding fields_in page_bytes head_bytes windows_bytes tail_bytes narrow total
    page-again =
        let f = part-again head_widths _ 0 13 (omega arith) refl refl head-same in
        let z₁ = zeros-again 13 19 (omega arith) (page-rule 4) in
        let a = window-again 32 (omega arith) (page-rule 0) in
        let z₂ = zeros-again 218 22 (omega arith) (page-rule 5) in
        let s = window-again 240 (omega arith) (page-rule 1) in
        let z₃ = zeros-again 426 22 (omega arith) (page-rule 6) in
        let t = part-again tail_widths _ 448 17 (omega arith) refl refl tail-same in
        let z₄ = zeros-again 465 29 (omega arith) (page-rule 7) in
        let v = part-again identity_widths _ 494 18 (omega arith) refl refl (sym identity-same) in
        (λ i. f i ++ z₁ i ++ (a i ++ z₂ i ++ s i ++ z₃ i) ++ (t i ++ z₄ i ++ v i)) ∙ sym parts
      where
        parts :
            page ≡
            part 0 13 page ++ part 13 19 page
            ++ (part 32 186 page ++ part 218 22 page ++ part 240 186 page ++ part 426 22 page)
            ++ (part 448 17 page ++ part 465 29 page ++ part 494 18 page)
        parts =
            sym (take_all 512 page (omega (arith, whole)))
            ∙ rw (
              split-part page 0 448 64,
              split-part page 0 32 416,
              split-part page 0 13 19,
              split-part page 32 394 22,
              split-part page 32 208 186,
              split-part page 32 186 22,
              split-part page 448 46 18,
              split-part page 448 17 29,
            )

pub written-again : WrittenAgain
written-again page b ok = page-again page ok b

-- the source that an accepted page shows
cond-true : {A : Type 0} (t : Bool) (a b c : A) → t ≡ false → cond t a b ≡ c → b ≡ c
cond-true true a b c e k = absurd (true≢false e)
cond-true false a b c e k = k

pub source-of-counter : SourceOfCounter
unfolding fields_in holds_debug debug_counter_of debug_fits
source-of-counter page ok held =
    let d = debug_from (tail_in page) in
    let set : eqb d.stamp unset ≡ false = not-true (eqb d.stamp unset) held in
    let r =
    passed (ltb d.stamp 281474976710656 ∷ eqb (ones d.source) 1 ∷ of_twelve d.source ∷ [])
    (cond-true (eqb d.stamp unset) _ _ true set (tail-rule page ok 3))
    in
    rw set (source-bit d.source (ltb-true d.source 4096 (r 2)) (eqb-true (ones d.source) 1 (r 1)))
