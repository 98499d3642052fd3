-- `check`: the length, the reserved bytes, and the fields.
use mathlib.Core.Path.{sym, ◌∙◌}
use borrow.Author.Rules.{part_to_end}
use Rattle.rules.proofs.settings.Laws.{length-refused, reserved-refused, fields-decide}
use borrow.Author.Rules.{rules}
use Rattle.rules.proofs.settings.check.Goals as goal

pub returns-then-s-ne-LENGTH : goal.returns-then-s-ne-LENGTH
returns-then-s-ne-LENGTH c = length-refused _ c.if-s-ne-LENGTH.true

pub returns-then-any_set : goal.returns-then-any_set
returns-then-any_set c = reserved-refused _ (search rules) (rw (← part_to_end _ 13) (sym c.any_set.ensures ∙ c.if-any_set.true))

pub returns-else-any_set : goal.returns-else-any_set
returns-else-any_set c =
    let clear = sym c.any_set.ensures ∙ c.if-any_set.false in
    c.check_fields.ensures ∙ (rw c.decode.ensures (fields-decide _ (search rules) (rw (← part_to_end _ 13) clear)))
