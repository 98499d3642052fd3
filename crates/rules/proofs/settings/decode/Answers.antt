-- `decode`: each field where the table has it.
use Rattle.rules.specs.Settings.{decoded}
use Rattle.rules.proofs.settings.decode.Goals as goal

pub returns : goal.returns
unfolding decoded
returns c = simp (c.word-3.ensures, c.word-2.ensures, c.word.ensures)
