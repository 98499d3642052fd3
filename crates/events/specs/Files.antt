-- 01, The page program: the history of a file, and where a file is turned away.
use Rattle.std.specs.Prelude.{◌≡◌, ℕ, zero, suc, ◌*◌, ◌/◌, ◌%◌, ◌<◌, cond, List, [], length, take, drop, ◌==◌}
use Rattle.std.specs.Prelude.{Option, None, Some}
use Rattle.monitor.specs.Calls.{History, found, and_then, or_else}
use Rattle.refusals.specs.Refusals.{number_of}
use Rattle.events.specs.declared.files.RefusedRecord.{RefusedRecord}
use Rattle.records.specs.Records.{call_of, record_refusal, accepted_call}

-- record i of a file, from 0
abbrev pub record_at : List ℕ → ℕ → List ℕ
record_at s i = take 16 (drop (16 * i) s)

-- how many whole records a file has
abbrev pub whole_records : List ℕ → ℕ
whole_records s = length s / 16

-- the calls of a file's first n records, the newest first; a record refused by 11 stands for none
unfoldable pub calls_before : List ℕ → ℕ → History
calls_before s zero = []
calls_before s (suc n) = and_then (call_of (record_at s n)) (calls_before s n)

-- those of them that nothing turns away
unfoldable pub accepted_before : List ℕ → ℕ → History
accepted_before s zero = []
accepted_before s (suc n) = and_then (accepted_call (record_at s n)) (accepted_before s n)

-- the calls of a file; bytes left over stand for none
unfoldable pub history_of : List ℕ → History
history_of s = calls_before s (whole_records s)

-- a refused record: its number from 0, and the refusal
pub record Refusal : Type 0 where
  pub index : ℕ
  pub number : ℕ

abbrev pub refusal_at : ℕ → Option ℕ → Option Refusal
refusal_at i None = None
refusal_at i (Some n) = Some (record { index = i; number = n })

-- nothing turns the first n records away
abbrev pub NoneRefused : List ℕ → ℕ → Type 0
NoneRefused s n = (i : ℕ) → i < n → record_refusal (record_at s i) ≡ None

-- the first refused record among the n from record i on
unfoldable pub first_refused_from : List ℕ → (i n : ℕ) → Option Refusal
first_refused_from s i zero = None
first_refused_from s i (suc n) =
    or_else (refusal_at i (record_refusal (record_at s i))) (first_refused_from s (suc i) n)

-- the first refused record of a file
unfoldable pub first_refused : List ℕ → Option Refusal
first_refused s = first_refused_from s 0 (whole_records s)

-- how many records stand before it, or how many there are
unfoldable pub accepted_records : List ℕ → ℕ
accepted_records s = found (whole_records s) (λ (r : Refusal). r.index) (first_refused s)

-- the refused record that a run stopped at
abbrev pub says_refused : Option RefusedRecord → Option Refusal
says_refused (Some r) = Some (record { index = r.index; number = number_of r.refusal })
says_refused None = None

-- 01, Where a call is turned away: a file that is not of whole records
unfoldable pub end_refusal : ℕ → Option ℕ
end_refusal n = cond (n % 16 == 0) None (Some 12)
