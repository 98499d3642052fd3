-- What is claimed of files, beyond the contracts: one may be taken in parts, the first of whole records, or be of an
-- earlier release, and what is refused in it is skipped.
use Rattle.std.specs.Prelude.{◌≡◌, ℕ, ◌+◌, ◌%◌, ◌<◌, ◌≤◌, false, List, [], ◌∷◌, ◌++◌, length, take, drop, slice_index}
use Rattle.std.specs.Prelude.{Some}
use Rattle.endian.specs.Bytes.{any_set}
use Rattle.endian.specs.Loads.{number}
use Rattle.monitor.specs.declared.record.Monitor.{Monitor}
use Rattle.monitor.specs.Calls.{WithoutAttribute, completion, play_from, play, found}
use Rattle.monitor.specs.Record.{new_monitor}
use Rattle.events.specs.Blocks.{refused_lines, printed, parts_printed}
use Rattle.events.specs.Explain.{bytes_before, number_said, input_said, question_of, parts_said}
use Rattle.records.specs.Records.{record_kind, part, unnamed, attribute, call_of}
use Rattle.events.specs.Files.{record_at, whole_records, accepted_before, history_of}

-- what follows is played on the monitor that the first part leaves
unfoldable pub InParts : Type 0
InParts =
    (m : Monitor) (s t : List ℕ) →
    length s % 16 ≡ 0 →
    play_from (play_from m (history_of s)) (history_of t) ≡ play_from m (history_of (s ++ t))

-- the refused lines of what follows come behind those of the first part, and its records are numbered on
unfoldable pub LinesInParts : Type 0
LinesInParts =
    (first : ℕ) (s t : List ℕ) →
    length s % 16 ≡ 0 →
    refused_lines first s ++ refused_lines (first + whole_records s) t ≡ refused_lines first (s ++ t)

-- parts of an input, one behind the other; and that all but the last are of whole records
abbrev pub joined : List (List ℕ) → List ℕ
joined [] = []
joined (s ∷ parts) = s ++ joined parts

abbrev pub OfWholeRecords : List (List ℕ) → Type 0
OfWholeRecords [] = Unit {0}
OfWholeRecords (s ∷ []) = Unit {0}
OfWholeRecords (s ∷ t ∷ parts) = (length s % 16 ≡ 0) × OfWholeRecords (t ∷ parts)

-- 01, The page program: however an input is cut into parts, all but the last of whole records, what is printed part by
-- part is what is printed for the input
unfoldable pub PrintedInParts : Type 0
PrintedInParts =
    (parts : List (List ℕ)) → OfWholeRecords parts → parts_printed new_monitor 0 parts ≡ printed (joined parts)

-- 02, Ticket 4: what earlier releases accepted as a completion, byte 2 being one of its unnamed bytes, is accepted as
-- what it was, without the attribute
unfoldable pub EarlierCompletions : Type 0
EarlierCompletions =
    (r : List ℕ) →
    length r ≡ 16 →
    record_kind r ≡ 2 →
    any_set (unnamed 2 4 8 r) ≡ false →
    call_of r ≡
    Some (completion (record { opcode = slice_index r 1; deallocate = false; latency = number (part 4 8 r) }))

-- 02, Ticket 4: a file whose completions have 0 in byte 2 is a history without the attribute
unfoldable pub EarlierFiles : Type 0
EarlierFiles =
    (s : List ℕ) →
    ((i : ℕ) → i < whole_records s → record_kind (record_at s i) ≡ 2 → attribute (record_at s i) ≡ 0) →
    WithoutAttribute (history_of s)

-- 02, Ticket 5: an input may be read in parts, the number's bytes and then any parts of the file, all but the last of
-- whole records. What is said of the number, and else by the first part that says anything, is what is said of the
-- input, whatever follows
unfoldable pub ExplainedInParts : Type 0
ExplainedInParts =
    (input : List ℕ) (parts : List (List ℕ)) →
    joined parts ≡ drop 4 input →
    OfWholeRecords parts →
    found (parts_said (question_of (take 4 input)) parts) (λ said. said) (number_said (length (take 4 input))) ≡
    input_said input

-- 02, Ticket 5: the monitor that `said_at` asks, which the bytes of the records before make of a new one, is the one
-- that the accepted calls among them make of it: those that are refused are skipped
unfoldable pub RefusedSkipped : Type 0
RefusedSkipped =
    (s : List ℕ) (n : ℕ) →
    n ≤ whole_records s →
    play (history_of (bytes_before s n)) ≡ play (accepted_before s n)
