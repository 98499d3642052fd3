-- `Question::read`: the part has the record, or ends before it.
use Rattle.std.proofs.Common.{ap, ◌*◌, ◌∙◌}
use Rattle.std.specs.Prelude.{Some}
use Rattle.std.proofs.lemmas.List.{take_min}
use Rattle.events.proofs.explain.Laws.{part-reached, part-passed}
use Rattle.events.proofs.files.Laws.{the-record}
use Rattle.events.proofs.explain.Question.read.Goals as goal

pub returns-then-before-whole : goal.returns-then-before-whole
returns-then-before-whole c =
    let reached =
    part-reached _ _ _ (rw (c.min.ensures, take_min (16 * c.args.self.before) c.args.s.now) at c.replay-monitor.ensures) c.if-before-whole.true
    in
    record { next = reached.0; said = ap Some (rw (the-record _ _) at c.record_said.ensures) ∙ reached.1 }

pub returns-else-before-whole : goal.returns-else-before-whole
returns-else-before-whole c =
    let met = part-passed _ _ _ (rw (c.min.ensures, take_min (16 * c.args.self.before) c.args.s.now) at c.replay-monitor.ensures) c.if-before-whole.false in
    record { next = met.0; said = met.1 }
