-- `clear`: neither part has a byte that is set.
use native.Mathlib.Omega.{arith}
use Rattle.records.proofs.Laws.{both-clear}
use Rattle.records.proofs.event.clear.Goals as goal

pub returns : goal.returns
returns c =
    both-clear c.args.r.now c.args.from c.args.to c.args.rest _ _ c.told-r (omega arith) (omega arith) c.load.ensures
    c.load-2.ensures
