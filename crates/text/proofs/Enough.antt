-- How much of an input is enough to list it.
use mathlib.Core.List.{List, [], ◌∷◌}
use mathlib.Core.Path.{◌≡◌, sym, ◌∙◌}
use Prim.Native.Nat.{ℕ, ◌<◌}
use native.Mathlib.Decide.{dec_lt}
use native.Mathlib.Omega.{arith}
use borrow.Author.Tests.{ne_eqb}
use lib.ListN.{length, take, length-take}
use lib.Seq.{take_all}
use Rattle.logpage.specs.Reader.{read_refusal}
use Rattle.text.specs.Claims.{enough, FirstBytesSuffice}
use Rattle.text.specs.Lines.{refused_line}
use Rattle.text.specs.Listing.{page_listing}

wrong-length : (page : List ℕ) → (length page ≡ 512 → ⊥) → page_listing page ≡ refused_line (13 ∷ [])
unfolding page_listing read_refusal
wrong-length page h = rw (ne_eqb (length page) 512 h)

-- a longer input is turned away by its length, and so are its first bytes
pub first-bytes-suffice : FirstBytesSuffice
first-bytes-suffice input = by (dec_lt enough (length input))
  where
    by : Dec (enough < length input) → page_listing (take enough input) ≡ page_listing input
    by (no k) = rw (take_all enough input (omega arith))
    by (yes k) =
        let size : length (take enough input) ≡ enough = length-take enough input ∙ omega arith in
        wrong-length (take enough input) (λ e. omega arith) ∙ sym (wrong-length input (λ e. omega arith))
