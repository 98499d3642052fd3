-- `LogPage::read`, by its three rows.
use mathlib.Core.Path.{sym, ap, ◌∙◌}
use Rattle.logpage.specs.Reader.{identified, layout_refusal, reading_of}
use Rattle.logpage.proofs.reader.Laws.{right_identity, wrong-identity, wrong-length}
use Rattle.logpage.proofs.page.LogPage.read.Goals as goal

pub returns-then-identified : goal.returns-then-identified
unfolding reading_of
returns-then-identified c =
    let whole = (rw c.in-Ok.is at c.try_from.ensures).1 in
    let row =
    right_identity c.args.page.now whole.long
    (ap identified (sym whole.same) ∙ (sym c.identified.ensures ∙ c.if-identified.true))
    in
    let layout = ap layout_refusal whole.same in
    let read = c.read_identified.ensures in
    record { answer = read.answer ∙ (layout ∙ sym row); reading = read.reading ∙ rw (whole.same, row) }

pub returns-else-identified : goal.returns-else-identified
unfolding reading_of
returns-else-identified c =
    let whole = (rw c.in-Ok.is at c.try_from.ensures).1 in
    let row =
    wrong-identity c.args.page.now whole.long
    (ap identified (sym whole.same) ∙ (sym c.identified.ensures ∙ c.if-identified.false))
    in
    record { answer = sym row; reading = rw row }

pub returns-in_default : goal.returns-in_default
unfolding reading_of
returns-in_default c =
    let row = wrong-length c.args.page.now c.in_default.ensures.1 in
    record { answer = sym row; reading = rw row }
