-- `after_discard`: discard 1, and 0.
use borrow.Author.Tests.{eq-eqb, ne_eqb}
use Rattle.rules.proofs.settings.after_discard.Goals as goal

pub returns-then-discard-eq1 : goal.returns-then-discard-eq1
returns-then-discard-eq1 c = rw (eq-eqb _ _ c.if-discard-eq1.true) c.none.ensures

pub returns-else-discard-eq1 : goal.returns-else-discard-eq1
returns-else-discard-eq1 c = rw (ne_eqb _ _ c.if-discard-eq1.false)
