-- The number of each refusal.
use Rattle.std.specs.Prelude.{ℕ, Option, None, Some, Result, Ok, Err}
use Rattle.refusals.specs.declared.Refusal.{Refusal}
use Rattle.refusals.specs.declared.Refusal.TheVariants as refusal

-- 01, Where a call is turned away: the row
abbrev pub number_of : Refusal → ℕ
number_of refusal.SettingsLength = 1
number_of refusal.ReservedByte = 2
number_of refusal.FlagAboveOne = 3
number_of refusal.NoTimerThreshold = 4
number_of refusal.ThresholdOrder = 5
number_of refusal.ReservedBit = 6
number_of refusal.ElapsedTime = 7
number_of refusal.ClockValue = 8
number_of refusal.PageLength = 9
number_of refusal.SettingsBackLength = 10
number_of refusal.UnknownRecord = 11
number_of refusal.PartOfRecord = 12
-- 02, Ticket 1: a page that is read
number_of refusal.ReadLength = 13
number_of refusal.ReadIdentity = 14
number_of refusal.ReadLayout = 15
-- 02, Ticket 5
number_of refusal.NotACompletion = 16

-- the number of an answer: that of the row which turned it away, or none
abbrev pub refusal_in : {A : Type 0} → Result A Refusal → Option ℕ
refusal_in (Err refusal) = Some (number_of refusal)
refusal_in (Ok answer) = None
