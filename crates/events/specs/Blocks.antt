-- 01, The page program: what is printed, the lines of refused records and of what is left over, and the page.
use Rattle.std.specs.Prelude.{◌≡◌, ◌≤◌, ℕ, zero, suc, ◌+◌, ◌*◌, ◌/◌, ◌%◌, ◌^◌, List, [], ◌∷◌, ◌++◌, length, take}
use Rattle.std.proofs.lemmas.List.Edits.{sets}
use Rattle.monitor.specs.declared.record.Monitor.{Monitor}
use Rattle.monitor.specs.Calls.{found, play_from, play}
use Rattle.monitor.specs.Report.{page_of}
use Rattle.text.specs.Lines.{refused_line}
use Rattle.text.specs.Pages.{text_of}
use Rattle.events.specs.declared.blocks.Block.{Block}
use Rattle.records.specs.Records.{record_refusal}
use Rattle.events.specs.Files.{record_at, whole_records, history_of, end_refusal}

-- the line of record i, if it is refused: its number, and the refusal. The bytes' first record has the number `first`;
-- numbers have 64 bits, more than any file needs.
unfoldable pub record_line : (first : ℕ) → List ℕ → ℕ → List ℕ
record_line first s i =
    found [] (λ refusal. refused_line ((first + i) % 2 ^ 64 ∷ refusal ∷ [])) (record_refusal (record_at s i))

-- the lines of n records, from record i on
unfoldable pub lines_from : (first : ℕ) → List ℕ → (i n : ℕ) → List ℕ
lines_from first s i zero = []
lines_from first s i (suc n) = record_line first s i ++ lines_from first s (suc i) n

-- the lines of all whole records
unfoldable pub refused_lines : (first : ℕ) → List ℕ → List ℕ
refused_lines first s = lines_from first s 0 (whole_records s)

-- t is stored from a place on: what the buffer holds after, and the number of bytes that it took, at most `room`
pub record Stored (t : List ℕ) (at room : ℕ) (before after : List ℕ) (took : ℕ) : Type 0 where
  pub content : after ≡ sets before at t
  pub exact : took ≡ length t
  pub within : took ≤ room

-- what a block leaves: the monitor that its records make of another, and its lines at the start of the output
pub record BlockLeaves (m : Monitor) (s : List ℕ) (first : ℕ) (before after : List ℕ) (b : Block) : Type 0 where
  pub monitor : b.monitor ≡ play_from m (history_of s)
  pub lines : Stored (refused_lines first s) 0 (length before) before after b.len

-- as much of the input as an output has room for the lines of: 50 bytes for each record
unfoldable pub with_room : (s output : List ℕ) → List ℕ
with_room s output = take (16 * (length output / 50)) s

-- the line of what is left over behind so many records, in a last block of n bytes
unfoldable pub end_line : (records n : ℕ) → List ℕ
end_line records n = found [] (λ refusal. refused_line (records ∷ refusal ∷ [])) (end_refusal n)

-- 01, The page program: all that is printed for an input: the lines of refused records, that of what is left over, and
-- the page
unfoldable pub printed : List ℕ → List ℕ
printed input =
    refused_lines 0 input ++ (end_line (whole_records input) (length input) ++ text_of (page_of (play (history_of input))))

-- what is printed of an input that is read in parts, from a monitor and the next record's number on: the lines of each
-- part, which leaves a monitor and a number to the next, and then the page
unfoldable pub parts_printed : Monitor → (next : ℕ) → List (List ℕ) → List ℕ
parts_printed m next [] = text_of (page_of m)
parts_printed m next (s ∷ parts) =
    refused_lines next s ++ (end_line (next + whole_records s) (length s) ++
    parts_printed (play_from m (history_of s)) (next + whole_records s) parts)
