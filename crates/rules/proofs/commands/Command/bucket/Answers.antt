-- `Command::bucket`: the search goes by which thresholds are reached.
use Rattle.rules.specs.Commands.{bucket_of, highest}
use Rattle.rules.proofs.commands.Command.bucket.Goals as goal

pub returns : goal.returns
unfolding bucket_of highest
returns c =
    rw (
      ← c.reaches-d.ensures,
      ← c.reaches-c.ensures,
      ← c.reaches-b.ensures,
      ← c.reaches-a.ensures,
    ) c.highest.ensures
