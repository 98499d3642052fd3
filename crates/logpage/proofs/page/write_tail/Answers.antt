-- `write_tail`: its fields are the bytes.
use Rattle.logpage.proofs.page.Laws.{tail-run}
use Rattle.logpage.proofs.page.write_tail.Goals as goal

pub returns : goal.returns
returns c =
    tail-run c.args.trigger c.args.debug c.args.page.now _ _ _ c.requires
    c.put_fields.ensures
    c.put.ensures
    c.put_fields-2.ensures
