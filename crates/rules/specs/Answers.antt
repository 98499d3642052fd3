-- What document 01 lets a call answer, and which of it each case of the code's enums says.
use Rattle.std.specs.Prelude.{Bool, true, false, List, ℕ}
use Rattle.std.specs.Prelude.{Option, None, Some, Result, Ok, Err}
use Rattle.refusals.specs.declared.Refusal.{Refusal}
use Rattle.refusals.specs.Refusals.{number_of}
use Rattle.rules.specs.declared.answers.CompletionAnswer.{CompletionAnswer}
use Rattle.rules.specs.declared.answers.CompletionAnswer.TheVariants as completion
use Rattle.rules.specs.declared.answers.ElapsedAnswer.{ElapsedAnswer}
use Rattle.rules.specs.declared.answers.ElapsedAnswer.TheVariants as elapsed

pub data CallAnswer : Type 0 where
  -- 01, Where a call is turned away: the refusal number
  refused : ℕ → CallAnswer
  -- 01, Where a call is turned away: accepted, with nothing more to tell
  done : CallAnswer
  -- 01, A completion: no counter; or the counter, whether its stamp was loaded, and whether a debug log was taken
  not_counted : CallAnswer
  counted : ℕ → Bool → Bool → CallAnswer
  -- 01, Time and power: whether the active window ended
  ended : Bool → CallAnswer
  -- 02, Ticket 2: the counts below threshold A of a window, by kind
  by_kind : List ℕ → CallAnswer

-- the refusal if there is one, else the answer of an accepted call
abbrev pub unless_refused : Option ℕ → CallAnswer → CallAnswer
unless_refused (Some n) answer = refused n
unless_refused None answer = answer

-- what the code's answers say
abbrev pub says_answer : Result Unit Refusal → CallAnswer
says_answer (Ok x) = done
says_answer (Err refusal) = refused (number_of refusal)

abbrev pub says_completion : CompletionAnswer → CallAnswer
says_completion completion.NotCounted = not_counted
says_completion completion.BelowA = not_counted
says_completion (completion.Counted n d) = counted n false d
says_completion (completion.Loaded n d) = counted n true d

-- 02, Ticket 2: whether it is the case of a completion below threshold A, for which the answer is still 'not counted'
abbrev pub says_below_a : CompletionAnswer → Bool
says_below_a completion.NotCounted = false
says_below_a completion.BelowA = true
says_below_a (completion.Counted n d) = false
says_below_a (completion.Loaded n d) = false

abbrev pub says_elapsed_answer : ElapsedAnswer → CallAnswer
says_elapsed_answer elapsed.Active = ended false
says_elapsed_answer elapsed.Ended = ended true

abbrev pub says_elapsed : Result ElapsedAnswer Refusal → CallAnswer
says_elapsed (Ok reply) = says_elapsed_answer reply
says_elapsed (Err refusal) = refused (number_of refusal)

-- 02, Ticket 5: whether an answer says that the stamp was loaded
abbrev pub loaded_in : CallAnswer → Bool
loaded_in (refused n) = false
loaded_in done = false
loaded_in not_counted = false
loaded_in (counted n loaded debug) = loaded
loaded_in (ended b) = false
loaded_in (by_kind counts) = false
