-- `number_said`: too few bytes, or all.
use Rattle.events.proofs.explain.Laws.{number_short, number-whole}
use Rattle.events.proofs.explain.number_said.Goals as goal

pub returns-then-n-lt-NUMBER : goal.returns-then-n-lt-NUMBER
returns-then-n-lt-NUMBER c = number_short _ c.if-n-lt-NUMBER.true

pub returns-else-n-lt-NUMBER : goal.returns-else-n-lt-NUMBER
returns-else-n-lt-NUMBER c = number-whole _ c.if-n-lt-NUMBER.false
