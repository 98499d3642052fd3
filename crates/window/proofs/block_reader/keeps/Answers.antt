-- `keeps`: the rules of a block, one by one.
use Rattle.window.proofs.block_reader.Laws.{block-kept}
use Rattle.window.proofs.block_reader.keeps.Goals as goal

pub returns : goal.returns
returns c =
    block-kept c.args.block.now c.args.w _ _ _ _ _ _ c.any_set.ensures c.any_set-2.ensures
    c.any_set-3.ensures
    c.any_set-4.ensures
    c.field.ensures.value
    c.window_fits.ensures
