-- 02, Ticket 1: what is claimed of the listing. The proof is in proofs/Enough.antt.
use Rattle.std.specs.Prelude.{List, ◌≡◌, ℕ, take}
use Rattle.text.specs.Listing.{page_listing}

-- one byte more than a page has
abbrev pub enough : ℕ
enough = 513

-- so many bytes of an input have the listing of the whole, however long it is
abbrev pub FirstBytesSuffice : Type 0
FirstBytesSuffice = (input : List ℕ) → page_listing (take enough input) ≡ page_listing input
