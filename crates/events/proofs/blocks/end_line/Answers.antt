-- `end_line`: a refused line where bytes are left over, and none else.
use Rattle.std.proofs.Common.{◌∙◌}
use Rattle.events.proofs.blocks.Laws.{some-line, none-line}
use Rattle.events.proofs.blocks.end_line.Goals as goal

pub returns-in-Err : goal.returns-in-Err
returns-in-Err c = c.line.ensures ∙ some-line _ _ _ c.in-Err.ensures

pub returns-in-Ok : goal.returns-in-Ok
returns-in-Ok c = c.no_line.ensures ∙ none-line _ _ c.in-Ok.ensures
