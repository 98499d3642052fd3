-- 02, Ticket 5: why a completion does not load a latency stamp, asked of the record before it.
use Rattle.std.specs.Prelude.{Bool, true, false, not, ◌&&◌, List, [], ◌∷◌, map, ◌↔◌, ◌≡◌, ℕ, suc, ◌≤◌, eqb, get_or}
use Rattle.window.specs.Fields.{unset}
use Rattle.rules.specs.declared.commands.Command.{Command}
use Rattle.std.specs.Prelude.{Option, None, Some}
use Rattle.monitor.specs.declared.reasons.Reason as code
use Rattle.monitor.specs.declared.reasons.Reason.TheVariants as reason
use Rattle.monitor.specs.declared.record.Monitor.{Monitor}
use Rattle.rules.specs.Answers.{loaded_in}
use Rattle.rules.specs.Commands.{kind_of, has_kind, bucket_of, counter_at, reaches_a, milliseconds_of}
use Rattle.rules.specs.Counting.{bit, larger, waited}
use Rattle.monitor.specs.Calls.{found}
use Rattle.monitor.specs.Record.{since_load, completion_answer}

-- the number of each reason
abbrev pub number_of : code.Reason → ℕ
number_of reason.Disabled = 1
number_of reason.OfNoKind = 2
number_of reason.BelowA = 3
number_of reason.SetInFirst = 4
number_of reason.NotLarger = 5
number_of reason.WithinMinimum = 6

-- and 0 where nothing keeps the stamp from being loaded
abbrev pub says_reason : Option code.Reason → ℕ
says_reason (Some reason) = number_of reason
says_reason None = 0

-- a sentence about the record and the completion
abbrev pub Reason : Type 0
Reason = Monitor → Command → Bool

-- 1: the monitor is disabled
abbrev pub disabled : Reason
disabled m c = not m.settings.enabled

-- 2: neither the opcode nor the attribute makes it a Read, Write or Deallocate
abbrev pub of_no_kind : Reason
of_no_kind m c = not (has_kind c)

-- 3: the latency is below threshold A
abbrev pub below_a : Reason
below_a m c = not (reaches_a m.settings.thresholds c)

-- a sentence about the record, a completion of so many ms, and counter n; and the same of the completion's own counter,
-- that of its bucket and kind. Where there is none, it is not true
abbrev pub CounterReason : Type 0
CounterReason = Monitor → (ms n : ℕ) → Bool

abbrev pub of_counter : CounterReason → Reason
of_counter test m c =
    found false (test m (milliseconds_of c)) (counter_at (bucket_of m.settings.thresholds c) (kind_of c))

-- counter n's stamp is set; its mode is largest
abbrev is_set : Monitor → ℕ → Bool
is_set m n = not (eqb (get_or m.active_window.stamps n 0) unset)

abbrev in_largest : Monitor → ℕ → Bool
in_largest m n = bit m.settings.mode n

-- 4: the stamp is set, and mode first keeps it
abbrev pub set_in_first : CounterReason
set_in_first m ms n = is_set m n && not (in_largest m n)

-- 5: the stamp is set, in mode largest, and the ms are no more than those measured
abbrev pub not_larger : CounterReason
not_larger m ms n = (is_set m n && in_largest m n) && not (larger (get_or m.active_window.latencies n 0) ms)

-- 6: the stamp is set, in mode largest, and the minimum window is not over since its load
abbrev pub within_minimum : CounterReason
within_minimum m ms n =
    (is_set m n && in_largest m n) && not (waited (since_load m n) m.settings.minimum_window)

-- the six, in the ticket's order
abbrev pub counter_reasons : List CounterReason
counter_reasons = set_in_first ∷ not_larger ∷ within_minimum ∷ []

abbrev pub reasons : List Reason
reasons = disabled ∷ of_no_kind ∷ below_a ∷ map of_counter counter_reasons

-- the number of the first that is true, where they are numbered from n on; 0 if none is
unfoldable pub lowest : (n : ℕ) → List Bool → ℕ
lowest n [] = 0
lowest n (true ∷ rest) = n
lowest n (false ∷ rest) = lowest (suc n) rest

-- which of the six are true
abbrev pub applying : Monitor → Command → List Bool
applying m c = map (λ (reason : Reason). reason m c) reasons

-- the answer: the lowest reason that applies
unfoldable pub reason_of : Monitor → Command → ℕ
reason_of m c = lowest 1 (applying m c)

-- the same among 4 to 6, of a completion for counter n
unfoldable pub stamp_reason_of : Monitor → (ms n : ℕ) → ℕ
stamp_reason_of m ms n = lowest 4 (map (λ (reason : CounterReason). reason m ms n) counter_reasons)

-- What is claimed, for any content of the record. Entry k of the list is reason k + 1. If the answer is a reason, that
-- one is true; if a reason is true, the answer is that one or a lower one
pub record IsLowest (applies : List Bool) (answer : ℕ) : Type 0 where
  pub told : (k : ℕ) → answer ≡ suc k → get_or applies k false ≡ true
  pub least : (k : ℕ) → get_or applies k false ≡ true → (1 ≤ answer) × (answer ≤ suc k)

abbrev pub AnswersLowest : Type 0
AnswersLowest = (m : Monitor) (c : Command) → IsLowest (applying m c) (reason_of m c)

-- the answer is 0 exactly if the completion, brought to this record, would answer that the stamp is loaded
abbrev pub ZeroWhereLoaded : Type 0
ZeroWhereLoaded = (m : Monitor) (c : Command) → (reason_of m c ≡ 0) ↔ (loaded_in (completion_answer m c) ≡ true)
