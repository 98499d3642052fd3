-- `Command::counts_below_a`: below threshold A; above; and of no kind.
use mathlib.Core.Path.{sym, ◌∙◌}
use Rattle.rules.proofs.commands.Laws.{below-a-kind, below-a-kindless}
use Rattle.rules.proofs.commands.Command.counts_below_a.Goals as goal

pub returns-in-Some : goal.returns-in-Some
returns-in-Some c =
    rw (below-a-kind _ _ _ (sym c.is_below_a.ensures ∙ c.if-is_below_a.true), ← c.in-Some.ensures, ← c.from.ensures)
    c.counted_at.ensures

pub returns-in_default : goal.returns-in_default
returns-in_default c = rw (below-a-kind _ _ _ (sym c.is_below_a.ensures ∙ c.if-is_below_a.false))

pub returns-in_default-2 : goal.returns-in_default-2
returns-in_default-2 c = rw (below-a-kindless c.args.s c.args.self (sym c.in_default.ensures))
