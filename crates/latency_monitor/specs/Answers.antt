-- The calls' answers as the numbers and flags that C gets.
use Rattle.std.specs.Prelude.{Bool, true, false, List, ℕ, get_or}
use Rattle.rules.specs.Answers.{CallAnswer, refused, done, not_counted, counted, ended, by_kind}
use Rattle.latency_monitor.specs.declared.answers.PlainCompletionAnswer.{PlainCompletionAnswer}
use Rattle.latency_monitor.specs.declared.answers.PlainElapsedAnswer.{PlainElapsedAnswer}
use Rattle.latency_monitor.specs.declared.answers.PlainBelowA.{PlainBelowA}

-- 01, Where a call is turned away: the refusal number, or 0 if the call was accepted
abbrev pub as_refusal : CallAnswer → ℕ
as_refusal (refused n) = n
as_refusal done = 0
as_refusal not_counted = 0
as_refusal (counted n loaded debug) = 0
as_refusal (ended b) = 0
as_refusal (by_kind counts) = 0

-- 01, Time and power: whether the active window ended
abbrev pub as_ended : CallAnswer → Bool
as_ended (refused n) = false
as_ended done = false
as_ended not_counted = false
as_ended (counted n loaded debug) = false
as_ended (ended b) = b
as_ended (by_kind counts) = false

-- the answer to elapsed time
abbrev pub as_elapsed : CallAnswer → PlainElapsedAnswer
as_elapsed reply = record { refusal = as_refusal reply; ended = as_ended reply }

-- the answer to a completion that has no counter
abbrev pub no_counter : PlainCompletionAnswer
no_counter = record { counter = 0; counted = false; loaded = false; debug = false }

-- 01, A completion: the answer to it
abbrev pub as_completion : CallAnswer → PlainCompletionAnswer
as_completion (refused n) = no_counter
as_completion done = no_counter
as_completion not_counted = no_counter
as_completion (counted n loaded debug) =
    record { counter = n; counted = true; loaded = loaded; debug = debug }
as_completion (ended b) = no_counter
as_completion (by_kind counts) = no_counter

-- 02, Ticket 2: the counts below threshold A, by the kind's number (01, The monitor's record)
abbrev pub as_below_a : List ℕ → PlainBelowA
as_below_a counts = record { read = get_or counts 0 0; write = get_or counts 1 0; deallocate = get_or counts 2 0 }
