-- `highest`: the buckets passed were not reached, so the search among those left decides.
use mathlib.Core.Path.{sym, ◌∙◌}
use mathlib.Core.List.{◌∷◌, []}
use Rattle.rules.proofs.commands.Laws.{hit, miss, nothing}
use borrow.Author.Rules.{rules}
use Rattle.rules.proofs.commands.highest.Goals as goal

pub loop-n-preserved : goal.loop-n-preserved
loop-n-preserved c = (search rules, sym (miss (c.args.a ∷ c.args.b ∷ c.args.c ∷ c.args.d ∷ []) c.loop-n.n (search rules) (rw c.from.ensures at c.if-reached-from.false)) ∙ c.loop-n.invariant.1)

pub returns-then-n-eq0 : goal.returns-then-n-eq0
returns-then-n-eq0 c =
    sym (nothing (c.args.a ∷ c.args.b ∷ c.args.c ∷ c.args.d ∷ [])) ∙ (rw c.if-n-eq0.true at c.loop-n.invariant.1)

pub returns-then-reached-from : goal.returns-then-reached-from
returns-then-reached-from c =
    sym (hit (c.args.a ∷ c.args.b ∷ c.args.c ∷ c.args.d ∷ []) c.loop-n.n (search rules) (rw c.from.ensures at c.if-reached-from.true)) ∙ c.loop-n.invariant.1
