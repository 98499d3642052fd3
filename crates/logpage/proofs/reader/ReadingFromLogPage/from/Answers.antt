-- `Reading::from`: the debug log's own facts beside the fields.
use Rattle.logpage.specs.Reader.{shown, holds_debug}
use Rattle.logpage.proofs.reader.ReadingFromLogPage.from.Goals as goal

pub returns : goal.returns
unfolding shown holds_debug
returns c = rw c.debug_counter.ensures
