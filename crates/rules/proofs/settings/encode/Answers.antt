-- `encode`: its fields are the bytes.
use mathlib.Core.Path.{◌∙◌}
use Rattle.rules.proofs.settings.Laws.{encodes}
use Rattle.rules.proofs.settings.encode.Goals as goal

pub returns : goal.returns
returns c = c.put_fields.ensures ∙ encodes c.args.s
