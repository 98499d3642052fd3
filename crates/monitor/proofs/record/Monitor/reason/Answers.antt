-- `Monitor::reason`: disabled; of no kind; what the counter's stamp says; and below threshold A.
use mathlib.Core.Path.{sym, ◌∙◌}
use borrow.Author.Tests.{not-true, not-false}
use Rattle.monitor.proofs.reasons.Laws.{reason-disabled, reason-no-kind, reason-below-a, reason-of-counter}
use Rattle.monitor.proofs.reasons.Laws.{below-without-counter}
use Rattle.monitor.proofs.record.Monitor.reason.Goals as goal

pub returns-then-not-self : goal.returns-then-not-self
returns-then-not-self c = sym (reason-disabled _ _ (not-true _ c.if-not-self.true))

pub returns-then-not-has_kind : goal.returns-then-not-has_kind
returns-then-not-has_kind c =
    sym (reason-no-kind _ _ (not-false _ c.if-not-self.false) (sym c.has_kind.ensures ∙ c.if-not-has_kind.true))

pub returns-in-Some : goal.returns-in-Some
returns-in-Some c =
    (rw c.from.ensures at c.stamp_reason.ensures) ∙ sym (reason-of-counter _ _ _ _ (sym c.in-Some.ensures.counter) c.milliseconds.ensures)

pub returns-in_default : goal.returns-in_default
returns-in_default c =
    let on = not-false _ c.if-not-self.false in
    let kind = sym c.has_kind.ensures ∙ c.if-not-has_kind.false in
    sym (reason-below-a _ _ on kind (below-without-counter c.args.self c.args.c on kind (sym c.in_default.ensures.counter)))
