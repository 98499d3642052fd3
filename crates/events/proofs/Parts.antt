-- A file may be taken in parts.
use Rattle.std.proofs.Common.{◌≡◌, ℕ, zero, suc, ◌+◌, ◌*◌, ◌%◌, ◌≤◌, List, [], ◌∷◌, ◌++◌, length, drop, sym, refl, ap, ◌∙◌, append_assoc, append-nil, arith, length-append, length-drop, drop_at, eq-eqb}
use lib.Seq.{drop-append-le, take-append-le}
use Rattle.monitor.specs.declared.record.Monitor.{Monitor}
use Rattle.monitor.specs.Calls.{play_from}
use Rattle.monitor.specs.Record.{new_monitor}
use Rattle.monitor.specs.Report.{page_of}
use Rattle.text.specs.Pages.{text_of}
use Rattle.events.specs.Files.{record_at, whole_records, calls_before, history_of, end_refusal}
use Rattle.events.specs.Blocks.{record_line, lines_from, refused_lines, end_line, printed, parts_printed}
use Rattle.events.specs.Claims.{InParts, LinesInParts, joined, OfWholeRecords, PrintedInParts}
use Rattle.events.proofs.files.Laws.{composed, rest-record}

-- the records of a first part are the whole's
pub same-record : (s t : List ℕ) (i : ℕ) → 16 * i + 16 ≤ length s → record_at (s ++ t) i ≡ record_at s i
same-record s t i h =
    rw (
      drop-append-le (16 * i) s t (omega arith),
      take-append-le 16 (drop (16 * i) s) t (omega (arith, length-drop (16 * i) s)),
    )

pub same-calls : (s t : List ℕ) (n : ℕ) → n ≤ whole_records s → calls_before (s ++ t) n ≡ calls_before s n
unfolding calls_before
same-calls s t zero h = refl
same-calls s t (suc n) h = rw (same-record s t n (omega arith), same-calls s t n (omega arith))

pub in_parts : InParts
unfolding InParts history_of
in_parts m s t e =
    let whole : 16 * whole_records s ≡ length s = omega arith in
    let sum : whole_records s + whole_records t ≡ whole_records (s ++ t) = omega (arith, length-append s t) in
    let first = same-calls s t (whole_records s) (omega arith) in
    rw (sum, drop_at s t (16 * whole_records s) (sym whole), first) at
    (composed m (s ++ t) (whole_records s) (whole_records t))

-- lines of so many records, and of so many more
lines_more :
    (first : ℕ) (s : List ℕ) (i a b : ℕ) →
    lines_from first s i a ++ lines_from first s (i + a) b ≡ lines_from first s i (a + b)
unfolding lines_from
lines_more first s i zero b =
    let here : i + 0 ≡ i = omega arith in
    let all : 0 + b ≡ b = omega arith in
    rw (here, all)
lines_more first s i (suc a) b =
    let on : i + suc a ≡ suc i + a = omega arith in
    let all : suc a + b ≡ suc (a + b) = omega arith in
    rw (on, all) (append_assoc (record_line first s i) (lines_from first s (suc i) a) (lines_from first s (suc i + a) b) ∙
    ap (λ (l : List ℕ). record_line first s i ++ l) (lines_more first s (suc i) a b))

same_lines :
    (first : ℕ) (s t : List ℕ) (n i : ℕ) →
    i + n ≤ whole_records s →
    lines_from first (s ++ t) i n ≡ lines_from first s i n
unfolding lines_from record_line
same_lines first s t zero i h = refl
same_lines first s t (suc n) i h =
    rw (same-record s t i (omega arith), same_lines first s t n (suc i) (omega arith))

-- the records of the second part follow
pub later-record :
    (s t : List ℕ) →
    16 * whole_records s ≡ length s →
    (i : ℕ) →
    record_at (s ++ t) (whole_records s + i) ≡ record_at t i
later-record s t whole i =
    sym (rest-record (s ++ t) (whole_records s) i) ∙ rw (drop_at s t (16 * whole_records s) (sym whole))

-- the lines of the second part
module _ (first : ℕ) (s t : List ℕ) (whole : 16 * whole_records s ≡ length s) where
  later-lines :
      (n i : ℕ) →
      lines_from first (s ++ t) (whole_records s + i) n ≡ lines_from (first + whole_records s) t i n
  unfolding lines_from record_line
  later-lines zero i = refl
  later-lines (suc n) i =
      let r = later-record s t whole i in
      let number : first + (whole_records s + i) ≡ first + whole_records s + i = omega arith in
      let on : suc (whole_records s + i) ≡ whole_records s + suc i = omega arith in
      rw (r, number, on, later-lines n (suc i))

pub lines-in-parts : LinesInParts
unfolding LinesInParts refused_lines
lines-in-parts first s t e =
    let whole : 16 * whole_records s ≡ length s = omega arith in
    let sum : whole_records s + whole_records t ≡ whole_records (s ++ t) = omega (arith, length-append s t) in
    let on : 0 + whole_records s ≡ whole_records s + 0 = omega arith in
    rw (sum, on, later-lines first s t whole (whole_records t) 0, same_lines first s t (whole_records s) 0 (omega arith)) at
    (lines_more first (s ++ t) 0 (whole_records s) (whole_records t))

-- a part of whole records leaves nothing over, and what is left over behind it is left over by the whole
none-left-over : (records n : ℕ) → n % 16 ≡ 0 → end_line records n ≡ []
unfolding end_line end_refusal
none-left-over records n e = rw (eq-eqb (n % 16) 0 e)

same-left-over :
    (records : ℕ) (s t : List ℕ) →
    length s % 16 ≡ 0 →
    end_line records (length t) ≡ end_line records (length (s ++ t))
unfolding end_line end_refusal
same-left-over records s t e =
    let same : length (s ++ t) % 16 ≡ length t % 16 = omega (arith, length-append s t) in
    rw same

-- what is printed of bytes, from a monitor and the next record's number on
abbrev printed_from : Monitor → ℕ → List ℕ → List ℕ
printed_from m next s =
    refused_lines next s ++ (end_line (next + whole_records s) (length s) ++ text_of (page_of (play_from m (history_of s))))

printed-of-none : (m : Monitor) (next : ℕ) → text_of (page_of m) ≡ printed_from m next []
unfolding refused_lines lines_from end_line end_refusal history_of calls_before play_from
printed-of-none m next = refl

-- a part of whole records, and what follows
printed-behind :
    (m : Monitor) (next : ℕ) (s t : List ℕ) →
    length s % 16 ≡ 0 →
    refused_lines next s ++ (end_line (next + whole_records s) (length s) ++
    printed_from (play_from m (history_of s)) (next + whole_records s) t) ≡
    printed_from m next (s ++ t)
unfolding InParts LinesInParts
printed-behind m next s t e =
    let sum : next + whole_records s + whole_records t ≡ next + whole_records (s ++ t) =
    omega (arith, length-append s t)
    in
    rw (
      none-left-over (next + whole_records s) (length s) e,
      in_parts m s t e,
      sum,
      same-left-over (next + whole_records (s ++ t)) s t e,
      ← lines-in-parts next s t e,
    )
    (sym (append_assoc (refused_lines next s) (refused_lines (next + whole_records s) t) _))

all-printed :
    (parts : List (List ℕ)) (m : Monitor) (next : ℕ) →
    OfWholeRecords parts →
    parts_printed m next parts ≡ printed_from m next (joined parts)
unfolding parts_printed
all-printed [] m next whole = printed-of-none m next
all-printed (s ∷ []) m next whole = rw (append-nil s)
all-printed (s ∷ t ∷ parts) m next (whole, rest) =
    ap (λ (l : List ℕ). refused_lines next s ++ (end_line (next + whole_records s) (length s) ++ l))
    (all-printed (t ∷ parts) (play_from m (history_of s)) (next + whole_records s) rest) ∙
    printed-behind m next s (joined (t ∷ parts)) whole

pub printed-in-parts : PrintedInParts
unfolding PrintedInParts printed
printed-in-parts parts whole =
    let all : 0 + whole_records (joined parts) ≡ whole_records (joined parts) = omega arith in
    rw all at (all-printed parts new_monitor 0 whole)
