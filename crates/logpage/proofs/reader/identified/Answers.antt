-- `identified`: version and GUID, one by one.
use Rattle.logpage.specs.Reader.{identified}
use Rattle.logpage.proofs.reader.identified.Goals as goal

pub returns : goal.returns
unfolding identified
returns c = rw c.values-found.ensures
