-- `put_each`: what is left, stored from here, gives the whole.
use native.Mathlib.Omega.{arith}
use borrow.Author.Rules.{rules}
use Rattle.window.proofs.block.Laws.{lower-place, downward-more, downward-end}
use Rattle.window.proofs.block.put_each.Goals as goal

pub loop-n-preserved : goal.loop-n-preserved
loop-n-preserved g c =
    let at = c.requires.1.1.0 _ _ (search rules) c.place-at.ensures in
    let p = lower-place g.start c.args.width c.loop-n.n _ (search rules) (search rules) at in
    downward-more c.args.width c.args.values _ _ _ c.loop-n.n _ _ _ _ (search rules) p.0 (omega arith) (omega arith) p.1
    c.loop-n.invariant
    c.put.ensures

pub returns : goal.returns
returns g c = downward-end c.args.width c.args.values _ _ _ _ (search rules) c.loop-n.invariant
