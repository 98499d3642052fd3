-- Calls, histories of calls, and the record that a history leaves.
use Rattle.std.specs.Prelude.{Bool, false, cond, List, [], ◌∷◌, ◌≡◌, ℕ}
use Rattle.std.specs.Prelude.{Option, None, Some}
use Rattle.rules.specs.declared.commands.Command.{Command}
use Rattle.monitor.specs.declared.record.Monitor.{Monitor}
use Rattle.monitor.specs.declared.windows.WindowChoice.{WindowChoice}
use Rattle.rules.specs.Answers.{CallAnswer, done, by_kind}
use Rattle.monitor.specs.Record.{new_monitor, after_settings, after_completion, after_elapsed, after_clock}
use Rattle.monitor.specs.Record.{after_power_up, settings_answer, completion_answer, elapsed_answer, clock_answer}
use Rattle.rules.specs.Refusals.{settings_refusal, elapsed_refusal, clock_refusal, page_refusal, settings_back_refusal}
use Rattle.monitor.specs.Report.{page_answer, settings_back_answer, counts_below_a}

-- 01, The facts of a history: a call with what it is given; of a lent buffer only the length matters
pub data Call : Type 0 where
  settings : List ℕ → Call
  completion : Command → Call
  elapsed : ℕ → Call
  clock : ℕ → Call
  power_up : Call
  page : ℕ → Call
  settings_back : ℕ → Call
  -- 02, Ticket 2
  below_a : WindowChoice → Call

-- the calls from a new monitor on, the newest first: what stands behind a call is the history at its place
abbrev pub History : Type 0
History = List Call

-- what a call leaves of the record, by the call's own definition; the last three only read
abbrev pub after : Call → Monitor → Monitor
after (settings s) m = after_settings m s
after (completion c) m = after_completion m c
after (elapsed ms) m = after_elapsed m ms
after (clock value) m = after_clock m value
after power_up m = after_power_up m
after (page n) m = m
after (settings_back n) m = m
after (below_a w) m = m

-- what a call answers on a record, by the call's own definition (document 01, each call's section)
abbrev pub answer_of : Monitor → Call → CallAnswer
answer_of m (settings s) = settings_answer s
answer_of m (completion c) = completion_answer m c
answer_of m (elapsed ms) = elapsed_answer m ms
answer_of m (clock value) = clock_answer value
answer_of m power_up = done
answer_of m (page n) = page_answer n
answer_of m (settings_back n) = settings_back_answer n
answer_of m (below_a w) = by_kind (counts_below_a w m)

-- the record that a history leaves of another
unfoldable pub play_from : Monitor → History → Monitor
play_from m [] = m
play_from m (c ∷ h) = after c (play_from m h)

-- the record that a history leaves of a new monitor
abbrev pub play : History → Monitor
play h = play_from new_monitor h

-- the number of the row that turns a call away
abbrev pub refusal_of : Call → Option ℕ
refusal_of (settings s) = settings_refusal s
refusal_of (completion c) = None
refusal_of (elapsed ms) = elapsed_refusal ms
refusal_of (clock value) = clock_refusal value
refusal_of power_up = None
refusal_of (page n) = page_refusal n
refusal_of (settings_back n) = settings_back_refusal n
refusal_of (below_a w) = None

-- something, if a test passes
abbrev pub only_if : {A : Type 0} → Bool → A → Option A
only_if test x = cond test (Some x) None

-- f of what is there, else a default
abbrev pub found : {A B : Type 0} → B → (A → B) → Option A → B
found default f None = default
found default f (Some x) = f x

-- the first of two that is there
abbrev pub or_else : {A : Type 0} → Option A → Option A → Option A
or_else None earlier = earlier
or_else (Some x) earlier = Some x

-- one more entry, if it is there
abbrev pub and_then : {A : Type 0} → Option A → List A → List A
and_then None earlier = earlier
and_then (Some x) earlier = x ∷ earlier

-- a fact of each entry of a list
abbrev pub All : {A : Type 0} → (A → Type 0) → List A → Type 0
All P [] = Unit {0}
All P (x ∷ xs) = P x × All P xs

-- the command that a call brings, if it is a completion
abbrev pub command_in : Call → Option Command
command_in (settings s) = None
command_in (completion c) = Some c
command_in (elapsed ms) = None
command_in (clock value) = None
command_in power_up = None
command_in (page n) = None
command_in (settings_back n) = None
command_in (below_a w) = None

-- 02, Ticket 4: whether a call is a completion with the deallocate attribute or bit; no call of a history is
abbrev pub attribute_in : Call → Bool
attribute_in call = found false (λ (c : Command). c.deallocate) (command_in call)

abbrev pub WithoutAttribute : History → Type 0
WithoutAttribute h = All (λ call. attribute_in call ≡ false) h
