-- 01, The page program: the call that each record stands for, its refusal, and the history of a file.
use Rattle.std.specs.Prelude.{cond, List, [], ◌++◌, ℕ, ◌-◌, eqb, leb, length, get_or, take, drop, replicate}
use Rattle.std.specs.Prelude.{Option, None, Some, Result, Ok, Err}
use Rattle.endian.specs.Bytes.{any_set}
use Rattle.endian.specs.Loads.{number}
use Rattle.rules.specs.declared.commands.Command.{Command}
use Rattle.monitor.specs.declared.record.Monitor.{Monitor}
use Rattle.rules.specs.Answers.{CallAnswer, refused, done, not_counted, counted, ended}
use Rattle.monitor.specs.Calls.{Call, settings, completion, elapsed, clock, power_up, play_from, refusal_of}
use Rattle.monitor.specs.Calls.{answer_of, command_in, found, and_then}
use Rattle.records.specs.declared.answers.RecordAnswer.{RecordAnswer}
use Rattle.records.specs.declared.answers.RecordAnswer.TheVariants as answer
use Rattle.records.specs.declared.event.Event.{Event}
use Rattle.records.specs.declared.event.Event.TheVariants as event
use Rattle.refusals.specs.declared.Refusal.{Refusal}
use Rattle.refusals.specs.Refusals.{number_of}

-- a record begins with its kind
abbrev pub record_kind : List ℕ → ℕ
record_kind r = get_or r 0 0

-- the bytes from a place up to another
abbrev pub part : (from to : ℕ) → List ℕ → List ℕ
part from to r = take (to - from) (drop from r)

-- the bytes that a kind leaves unnamed: from a place up to another, and from a third on
abbrev pub unnamed : (from to rest : ℕ) → List ℕ → List ℕ
unnamed from to rest r = part from to r ++ drop rest r

-- the call, unless one of these bytes is set
abbrev if_clear : List ℕ → Call → Option Call
if_clear bytes c = cond (any_set bytes) None (Some c)

-- kind 1 brings the thirteen settings bytes that are not reserved
abbrev pub settings_with : List ℕ → List ℕ
settings_with fields = fields ++ replicate 4083 0

unfoldable pub settings_bytes : List ℕ → List ℕ
settings_bytes r = settings_with (part 1 14 r)

-- kind 2 brings a command; 02, Ticket 4: byte 2 is its deallocate attribute or bit, 0 or 1
abbrev pub attribute : List ℕ → ℕ
attribute r = get_or r 2 0

unfoldable pub command_of : List ℕ → Command
command_of r = record { opcode = get_or r 1 0; deallocate = eqb (attribute r) 1; latency = number (part 4 8 r) }

-- with more in that byte a record stands for no call, whatever the opcode
unfoldable pub completion_of : List ℕ → Option Call
completion_of r = cond (leb (attribute r) 1) (if_clear (unnamed 3 4 8 r) (completion (command_of r))) None

-- kind 3 brings four bytes of time, kind 4 eight of the clock
unfoldable pub elapsed_of : List ℕ → ℕ
elapsed_of r = number (part 4 8 r)

unfoldable pub clock_of : List ℕ → ℕ
clock_of r = number (part 4 12 r)

-- the call of a kind, if the bytes that the kind has no name for are clear; 5 is power-up, which brings nothing
unfoldable pub call_of_kind : ℕ → List ℕ → Option Call
call_of_kind kind r =
    cond (eqb kind 1) (if_clear (unnamed 14 16 16 r) (settings (settings_bytes r)))
    (cond (eqb kind 2) (completion_of r)
    (cond (eqb kind 3) (if_clear (unnamed 1 4 8 r) (elapsed (elapsed_of r)))
    (cond (eqb kind 4) (if_clear (unnamed 1 4 12 r) (clock (clock_of r)))
    (cond (eqb kind 5) (if_clear (unnamed 1 8 8 r) power_up) None))))

-- the call that a record stands for, if any
unfoldable pub call_of : List ℕ → Option Call
call_of r = cond (eqb (length r) 16) (call_of_kind (record_kind r) r) None

-- the command of a call, if it is a completion; and that of a record. One that 11 turns away stands for none
abbrev pub command_of_call : Option Call → Option Command
command_of_call call = found None (λ (c : Call). command_in c) call

unfoldable pub completion_at : List ℕ → Option Command
completion_at r = command_of_call (call_of r)

-- the call of an event that was read, or none
abbrev pub call_in : Event → Call
call_in (event.Settings fields) = settings (settings_with fields)
call_in (event.Completion c) = completion c
call_in (event.Elapsed ms) = elapsed ms
call_in (event.Clock value) = clock value
call_in event.PowerUp = power_up

abbrev pub says_event : Option Event → Option Call
says_event (Some e) = Some (call_in e)
says_event None = None

-- 01, Where a call is turned away: what stands for no call is refused by 11, and else the call's own rows decide
unfoldable pub record_refusal : List ℕ → Option ℕ
record_refusal r = found (Some 11) refusal_of (call_of r)

-- what a record answers on a monitor: its call's own answer, or 11
unfoldable pub record_answer : Monitor → List ℕ → CallAnswer
record_answer m r = found (refused 11) (answer_of m) (call_of r)

-- what the code's answers say
abbrev pub says_accepted : RecordAnswer → CallAnswer
says_accepted answer.Done = done
says_accepted answer.NotCounted = not_counted
says_accepted (answer.Counted n loaded debug) = counted n loaded debug
says_accepted (answer.Ended e) = ended e

abbrev pub says_record : Result RecordAnswer Refusal → CallAnswer
says_record (Ok reply) = says_accepted reply
says_record (Err refusal) = refused (number_of refusal)

-- what a record leaves of a monitor
unfoldable pub after_record : Monitor → List ℕ → Monitor
after_record m r = play_from m (and_then (call_of r) [])

-- the call of a record that nothing turns away
abbrev pub accepted_call : List ℕ → Option Call
accepted_call r = found (call_of r) (λ refusal. None) (record_refusal r)
