-- `logged`: a log that is taken, and the one that was held.
use Rattle.rules.proofs.counting.logged.Goals as goal

pub returns-then-takes : goal.returns-then-takes
returns-then-takes c = rw (c.if-takes.true, c.one_bit.ensures)

pub returns-else-takes : goal.returns-else-takes
returns-else-takes c = rw c.if-takes.false
