-- `command`: the parts of the definition.
use Rattle.records.specs.Records.{command_of, elapsed_of}
use Rattle.records.proofs.event.command.Goals as goal

pub returns : goal.returns
unfolding command_of elapsed_of
returns c = rw c.time.ensures
