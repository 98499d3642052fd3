-- `settings_bytes`: the fields stand before zeros.
use mathlib.Core.Path.{◌∙◌}
use borrow.Author.Rules.{rules}
use Rattle.records.proofs.Laws.{padded}
use Rattle.records.proofs.calls.settings_bytes.Goals as goal

pub returns : goal.returns
returns c = c.copy.ensures ∙ padded c.args.fields (search rules)
