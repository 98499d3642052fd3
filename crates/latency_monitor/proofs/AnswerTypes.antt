-- The record, what a completion brings, the answers and outcomes of the calls, and the answers as numbers, as the walks
-- of `lending` take them.
use mathlib.Core.Path.{refl}
use mir.Syntax.{w8}
use denote.Builtin.{unit}
use denote.Param.Laws.{Laws, Told, IsCopy, of_copyable, of_field, copy_told}
use denote.Param.Plain.{IsPlain}
use denote.Param.Shared.{copy_shared}
use denote.Plain.{UInt}
use denote.RattleType.{RattleType}
use denote.Struct.Field.{unit-field}
use denote.Struct.Laws.{unit-copy, unit-laws}
use Rattle.refusals.specs.contracts.Refusal as N
use Rattle.refusals.proofs.Refusal.TheLaws as N'
use Rattle.rules.specs.contracts.answers.CompletionAnswer as CN
use Rattle.rules.proofs.answers.CompletionAnswer.TheLaws as CN'
use Rattle.rules.specs.contracts.answers.ElapsedAnswer as EN
use Rattle.rules.proofs.answers.ElapsedAnswer.TheLaws as EN'
use Rattle.rules.specs.contracts.commands.Command as Cmd
use Rattle.rules.proofs.commands.Command.TheLaws as Cmd'
use Rattle.monitor.specs.contracts.record.Monitor as Mon
use Rattle.monitor.proofs.record.Monitor.TheLaws as Mon'
use Rattle.monitor.specs.contracts.record.Outcome as O
use Rattle.monitor.proofs.record.Outcome.TheLaws as O'
use Rattle.std.specs.contracts.result.Result as R
use Rattle.std.proofs.result.Result.TheLaws as R'
use Rattle.latency_monitor.specs.contracts.answers.PlainCompletionAnswer as CR
use Rattle.latency_monitor.proofs.answers.PlainCompletionAnswer.TheLaws as CR'
use Rattle.latency_monitor.specs.contracts.answers.PlainElapsedAnswer as ER
use Rattle.latency_monitor.proofs.answers.PlainElapsedAnswer.TheLaws as ER'
use Rattle.latency_monitor.specs.contracts.answers.PlainBelowA as BR
use Rattle.latency_monitor.proofs.answers.PlainBelowA.TheLaws as BR'
use Rattle.logpage.specs.contracts.reader.Reading as Rd
use Rattle.logpage.proofs.reader.Reading.TheLaws as Rd'
use Rattle.lending.proofs.PlainData.{Plain, plain-uint, plain-struct, plain-enum, tagged-enum, Way}
use Rattle.lending.proofs.PlainData.{by-case, Outcome, outcome-struct}

abbrev pub the-record : Plain Mon.the_row
the-record = plain-struct Mon.the_type Mon'.the_laws Mon'.the_plain Mon'.the_copy

-- what a completion brings
abbrev pub the-command : Plain Cmd.the_row
the-command = plain-struct Cmd.the_type Cmd'.the_laws Cmd'.the_plain Cmd'.the_copy

-- an answer that may be a refusal
abbrev refusable : (T : RattleType) → Laws T → Told T → IsPlain T → IsCopy T → Plain (R.the_row T N.the_row)
refusable T laws told plain copies =
    plain-enum (R.the_type T N.the_row) (R'.the_laws T N.the_row laws N'.the_row_laws told N'.the_told) tt
    (R'.the_plain T N.the_row plain N'.the_row_plain)
    (R'.the_copy T N.the_row laws N'.the_row_laws copies N'.the_row_copy)

-- `()`: accepted, with nothing more to tell
abbrev unit_copies : IsCopy unit
unit_copies = of_copyable unit-field unit-copy

abbrev unit_told : Told unit
unit_told = copy_told unit unit_copies

abbrev unit_row_laws : Laws unit
unit_row_laws = of_field unit-field unit-laws refl (copy_shared unit-field unit-copy)

abbrev pub answer : Plain (R.the_row unit N.the_row)
answer = refusable unit unit_row_laws unit_told (λ x vs. tt) unit_copies

abbrev pub completion-answer : Plain CN.the_row
completion-answer = plain-enum CN.the_type CN'.the_laws tt CN'.the_plain CN'.the_copy

abbrev pub elapsed-answer : Plain (R.the_row EN.the_row N.the_row)
elapsed-answer = refusable EN.the_row EN'.the_row_laws EN'.the_told EN'.the_row_plain EN'.the_row_copy

abbrev pub read-answer : Plain (R.the_row Rd.the_row N.the_row)
read-answer = refusable Rd.the_row Rd'.the_row_laws Rd'.the_told Rd'.the_row_plain Rd'.the_row_copy

abbrev pub completion-cases : Way completion-answer
completion-cases = by-case (tagged-enum CN.the_type CN'.the_laws refl (λ s. tt))

abbrev pub elapsed-cases : Way elapsed-answer
elapsed-cases =
    by-case
    (tagged-enum (R.the_type EN.the_row N.the_row)
    (R'.the_laws EN.the_row N.the_row EN'.the_row_laws N'.the_row_laws EN'.the_told N'.the_told)
    refl
    (λ s. tt))

abbrev pub outcome : Outcome the-record answer
outcome =
    outcome-struct the-record answer (O.the_type (R.the_row unit N.the_row))
    (O'.the_laws (R.the_row unit N.the_row) (R'.the_row_laws unit N.the_row unit_row_laws N'.the_row_laws)
    (R'.the_told unit N.the_row unit_row_laws N'.the_row_laws unit_told N'.the_told))
    (λ o. o.next)
    (λ o. o.answer)
    refl
    (λ o. refl)
    (λ o each. (each.0, each.1.0))

abbrev pub completion-outcome : Outcome the-record completion-answer
completion-outcome =
    outcome-struct the-record completion-answer (O.the_type CN.the_row)
    (O'.the_laws CN.the_row CN'.the_row_laws CN'.the_told)
    (λ o. o.next)
    (λ o. o.answer)
    refl
    (λ o. refl)
    (λ o each. (each.0, each.1.0))

abbrev pub elapsed-outcome : Outcome the-record elapsed-answer
elapsed-outcome =
    outcome-struct the-record elapsed-answer (O.the_type (R.the_row EN.the_row N.the_row))
    (O'.the_laws (R.the_row EN.the_row N.the_row)
    (R'.the_row_laws EN.the_row N.the_row EN'.the_row_laws N'.the_row_laws)
    (R'.the_told EN.the_row N.the_row EN'.the_row_laws N'.the_row_laws EN'.the_told N'.the_told))
    (λ o. o.next)
    (λ o. o.answer)
    refl
    (λ o. refl)
    (λ o each. (each.0, each.1.0))

abbrev pub refusal : Plain (UInt w8)
refusal = plain-uint w8

abbrev pub plain-completion-answer : Plain CR.the_row
plain-completion-answer = plain-struct CR.the_type CR'.the_laws CR'.the_plain CR'.the_copy

abbrev pub plain-elapsed-answer : Plain ER.the_row
plain-elapsed-answer = plain-struct ER.the_type ER'.the_laws ER'.the_plain ER'.the_copy

abbrev pub plain-below-a : Plain BR.the_row
plain-below-a = plain-struct BR.the_type BR'.the_laws BR'.the_plain BR'.the_copy

-- the fields of a page, which `read_page` fills
abbrev pub fields : Plain Rd.the_row
fields = plain-struct Rd.the_type Rd'.the_laws Rd'.the_plain Rd'.the_copy
