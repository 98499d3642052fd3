-- `Event::read`: 16 bytes are read by their kind, and nothing else stands for a call.
use mathlib.Core.Path.{sym, ap, ◌∙◌}
use Rattle.records.specs.Records.{record_kind, call_of_kind, says_event}
use Rattle.records.proofs.Laws.{of-sixteen, not-sixteen}
use Rattle.records.proofs.event.Event.read.Goals as goal

pub returns-clause-event : goal.returns-clause-event
returns-clause-event c =
    let whole = (rw c.in-Ok.is at c.try_from.ensures).1 in
    ap says_event (sym c.ok_or.ensures.ok_part) ∙
    (c.of.ensures ∙
    (ap (λ bytes. call_of_kind (record_kind bytes) bytes) whole.same ∙ sym (of-sixteen c.args.r.now whole.long)))

pub returns-in_default-clause-event : goal.returns-in_default-clause-event
returns-in_default-clause-event c = sym (not-sixteen c.args.r.now c.in_default.ensures.1)
