-- `keeps`: the rules of the layout, one by one.
use Rattle.logpage.proofs.reader.Laws.{page-kept}
use Rattle.logpage.proofs.reader.keeps.Goals as goal

pub returns : goal.returns
returns c =
    page-kept c.args.page.now c.args.head.values c.args.tail.values c.args.active_window
    c.args.static_window
    _
    _
    _
    _
    _
    _
    _
    _
    c.keeps.ensures
    c.keeps-2.ensures
    c.head_fits.ensures
    c.tail_fits.ensures
    c.any_set.ensures
    c.any_set-2.ensures
    c.any_set-3.ensures
    c.any_set-4.ensures
