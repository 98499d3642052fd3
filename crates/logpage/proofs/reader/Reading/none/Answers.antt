-- `Reading::none`: each part is a new monitor's.
use Rattle.logpage.specs.Reader.{no_reading}
use Rattle.logpage.proofs.reader.Reading.none.Goals as goal

pub returns : goal.returns
unfolding no_reading
returns c = cc
