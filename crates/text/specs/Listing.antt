-- 02, Ticket 1: the listing of a page's counters.
use Rattle.std.specs.Prelude.{ℕ, zero, suc, List, [], ◌∷◌, ◌++◌, Option, None, Some, get_or}
use Rattle.logpage.specs.Reader.{fields_in, read_refusal}
use Rattle.logpage.specs.declared.page.LogPage.{LogPage}
use Rattle.text.specs.Lines.{decimal, spaced, refused_line}

-- the counter's number, its count in the active window, its count in the static window, newline
unfoldable pub counts_line : (n active static : ℕ) → List ℕ
counts_line n active static = decimal n ++ spaced (active ∷ static ∷ []) ++ (10 ∷ [])

-- the lines of the first n counters
unfoldable pub counts_lines : (active static : List ℕ) (n : ℕ) → List ℕ
counts_lines active static zero = []
counts_lines active static (suc n) = counts_lines active static n ++ counts_line n (get_or active n 0) (get_or static n 0)

-- twelve counters
unfoldable pub listing_of : (active static : List ℕ) → List ℕ
listing_of active static = counts_lines active static 12

-- the counters that a page's fields show, or the line of its refusal
abbrev pub listed : Option ℕ → LogPage → List ℕ
listed None p = listing_of p.active_window.counters p.static_window.counters
listed (Some n) p = refused_line (n ∷ [])

unfoldable pub page_listing : List ℕ → List ℕ
page_listing page = listed (read_refusal page) (fields_in page)
