-- `put`: the number's bytes over zeros.
use Rattle.endian.proofs.stores.Laws.{number_put}
use Rattle.endian.proofs.stores.put.Goals as goal

pub returns : goal.returns
returns c =
    number_put c.args.s.now _ _ _ c.args.v (c.ranges.v.fits) (c.fill.ensures.after (λ y e. e)) c.to_le_bytes.ensures
    c.copy.ensures
