-- `load`: the bytes over zeros make the number.
use Rattle.endian.proofs.loads.Laws.{number_loaded}
use Rattle.endian.proofs.loads.load.Goals as goal

pub returns : goal.returns
returns c = number_loaded c.args.s.now _ _ c.copy.ensures c.from_le_bytes.ensures
