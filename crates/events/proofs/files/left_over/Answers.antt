-- `left_over`: 1 to 15 bytes, or none.
use Rattle.events.proofs.files.Laws.{whole, some_left}
use Rattle.events.proofs.files.left_over.Goals as goal

pub returns-then-n-eq0 : goal.returns-then-n-eq0
returns-then-n-eq0 c = whole c.args.n c.if-n-eq0.true

pub returns-else-n-eq0 : goal.returns-else-n-eq0
returns-else-n-eq0 c = some_left c.args.n c.if-n-eq0.false
