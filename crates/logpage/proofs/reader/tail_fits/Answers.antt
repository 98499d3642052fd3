-- `tail_fits`: the rules of the last fields, one by one.
use Rattle.logpage.proofs.reader.tail_fits.Goals as goal

pub returns : goal.returns
returns c = rw (c.debug_fits.ensures, c.debug_from.ensures)
