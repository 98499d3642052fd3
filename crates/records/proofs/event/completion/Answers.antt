-- `completion`: 16 bytes, and any others.
use mathlib.Core.Path.{sym, ap, ◌∙◌}
use Rattle.records.specs.Records.{record_kind, call_of_kind, command_of_call, completion_at}
use Rattle.records.proofs.Laws.{of-sixteen, not-sixteen}
use Rattle.records.proofs.event.completion.Goals as goal

pub returns : goal.returns
unfolding completion_at
returns c =
    let whole = (rw c.in-Ok.is at c.try_from.ensures).1 in
    c.completed.ensures ∙
    ap command_of_call
    (ap (λ bytes. call_of_kind (record_kind bytes) bytes) whole.same ∙ sym (of-sixteen c.args.r.now whole.long))

pub returns-in_default : goal.returns-in_default
unfolding completion_at
returns-in_default c = ap command_of_call (sym (not-sixteen c.args.r.now c.in_default.ensures.1))
