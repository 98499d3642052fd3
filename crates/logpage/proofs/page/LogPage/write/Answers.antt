-- `LogPage::write`: head, windows and tail of a page of 512 bytes.
use mathlib.Core.Path.{◌∙◌}
use borrow.Author.Tests.{eq-eqb, ne_eqb}
use Rattle.logpage.proofs.page.Laws.{page-run}
use Rattle.logpage.proofs.page.LogPage.write.Goals as goal

pub returns-then-page-eq512 : goal.returns-then-page-eq512
returns-then-page-eq512 c =
    let e = eq-eqb _ 512 c.if-page-eq512.true in
    let whole =
    page-run c.args.self c.args.page.now _ _ _ c.if-page-eq512.true c.write_head.ensures
    c.write_windows.ensures
    c.write_tail.ensures
    in
    record { written = rw e; bytes = whole ∙ rw e }

pub returns-else-page-eq512 : goal.returns-else-page-eq512
returns-else-page-eq512 c = let e = ne_eqb _ 512 c.if-page-eq512.false in record { written = rw e; bytes = rw e }
