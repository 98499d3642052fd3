-- `bounds`: thresholds out of order, and each counter's bound.
use Rattle.std.proofs.Common.{sym, ◌∙◌, arith}
use Rattle.batch.proofs.tally.Laws.{no-bounds, all-bounds}
use Rattle.batch.proofs.tally.bounds.Goals as goal

pub returns-then-unordered : goal.returns-then-unordered
returns-then-unordered c = no-bounds _ (sym c.unordered.ensures ∙ c.if-unordered.true)

pub returns : goal.returns
returns c =
    all-bounds _ c.loop-n.bound-items (sym c.unordered.ensures ∙ c.if-unordered.false) c.loop-n.auto.bound-items
    (λ n h. c.loop-n.invariant n (omega arith))
