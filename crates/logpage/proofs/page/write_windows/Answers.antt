-- `write_windows`: a block, zeros, a block, zeros.
use Rattle.logpage.proofs.page.Laws.{windows-run}
use Rattle.logpage.proofs.page.write_windows.Goals as goal

pub returns : goal.returns
returns c =
    windows-run c.args.active_window c.args.static_window c.args.page.now _ _ _ _ c.requires
    c.write_block.ensures
    c.put.ensures
    c.write_block-2.ensures
    c.put-2.ensures
