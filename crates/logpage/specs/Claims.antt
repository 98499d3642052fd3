-- 02, Ticket 1: what is claimed of every page. The proofs are in proofs/Written.antt and proofs/Accepted.antt.
use Rattle.std.specs.Prelude.{true, List, ◌≡◌, ℕ, ◌<◌, ◌^◌}
use Rattle.std.specs.Prelude.{None}
use Rattle.endian.specs.Bytes.{Bytes}
use Rattle.logpage.specs.Fields.{Fits}
use Rattle.logpage.specs.Page.{page_bytes}
use Rattle.logpage.specs.Reader.{fields_in, holds_debug, debug_counter_of, shown, read_refusal, reading_of, fields_fit}
use Rattle.logpage.specs.declared.page.LogPage.{LogPage}

-- what is accepted is written again as the same bytes
abbrev pub WrittenAgain : Type 0
WrittenAgain = (page : List ℕ) → Bytes page → read_refusal page ≡ None → page_bytes (fields_in page) ≡ page

-- what the writer makes of fields that keep the rules is accepted, and read as those fields
abbrev pub ReadAsWritten : Type 0
ReadAsWritten =
    (p : LogPage) →
    Fits p →
    fields_fit p ≡ true →
    (read_refusal (page_bytes p) ≡ None) × (reading_of (page_bytes p) ≡ shown p)

-- the number that is handed back is that of the counter whose bit the source has
abbrev pub SourceOfCounter : Type 0
SourceOfCounter =
    (page : List ℕ) →
    read_refusal page ≡ None →
    let debug = (fields_in page).debug in
    holds_debug debug ≡ true →
    (debug.source ≡ 2 ^ debug_counter_of debug) × (debug_counter_of debug < 12)
