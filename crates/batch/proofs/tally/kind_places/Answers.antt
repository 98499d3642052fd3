-- `kind_places`: past the codes below 32 no command has a kind.
use Rattle.std.proofs.Common.{arith}
use Rattle.batch.proofs.tally.Laws.{all-places}
use Rattle.batch.proofs.tally.kind_places.Goals as goal

pub returns : goal.returns
returns c =
    all-places _ c.loop-code.place-items c.loop-code.auto.place-items (λ code h. c.loop-code.invariant code (omega arith))
