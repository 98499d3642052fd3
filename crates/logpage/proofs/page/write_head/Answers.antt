-- `write_head`: its fields are the bytes.
use Rattle.logpage.proofs.page.Laws.{head-run}
use Rattle.logpage.proofs.page.write_head.Goals as goal

pub returns : goal.returns
returns c =
    head-run c.args.settings c.args.timer c.args.page.now _ _ c.requires
    c.put_fields.ensures
    c.put.ensures
