-- `window_fits`: the counters that are left, asked from here, give the answer.
use mathlib.Core.Path.{refl}
use borrow.Author.Rules.{rules}
use Rattle.window.specs.BlockReader.{window_fits}
use Rattle.window.proofs.block_reader.Laws.{tested, tests-more, tests-end}
use Rattle.window.proofs.block_reader.window_fits.Goals as goal

pub loop-n-init : goal.loop-n-init
unfolding window_fits
loop-n-init c = (refl)

pub loop-n-preserved : goal.loop-n-preserved
loop-n-preserved c = (tests-more (tested c.args.w) _ _ c.loop-n.n _ (search rules) c.counter_fits-fits.ensures c.loop-n.invariant
    )

pub returns : goal.returns
returns c = tests-end (tested c.args.w) _ _ c.loop-n.n (search rules) c.loop-n.invariant
