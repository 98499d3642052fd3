-- `read_identified`: what was read is what the page shows, or a rule of the layout is broken.
use mathlib.Core.Path.{sym, ◌∙◌}
use native.Mathlib.Omega.{arith}
use Rattle.logpage.proofs.reader.Laws.{laid_out, not-laid-out, fields_read}
use Rattle.logpage.proofs.reader.read_identified.Goals as goal

pub overflow_cast-timer : goal.overflow_cast-timer
overflow_cast-timer c = omega (arith, c.head_in-head.result.bounded 2)

pub returns-then-keeps : goal.returns-then-keeps
returns-then-keeps c =
    let fits =
    laid_out c.args.page.now _ _ _ _ _ c.head_in-head.ensures c.tail_in-tail.ensures
    c.read_block-active_window.ensures
    c.read_block-static_window.ensures
    c.keeps.ensures
    c.if-keeps.true
    in
    let fields =
    fields_read c.args.page.now _ _ _ _ _ c.head_in-head.ensures c.tail_in-tail.ensures
    c.read_block-active_window.ensures
    c.read_block-static_window.ensures
    c.keeps.ensures
    _
    _
    c.settings_from-settings.ensures
    c.debug_from-debug.ensures
    in
    record { answer = sym fits; reading = c.from.ensures ∙ rw (fits, fields) }

pub returns-else-keeps : goal.returns-else-keeps
returns-else-keeps c =
    let broken =
    not-laid-out c.args.page.now _ _ _ _ _ c.head_in-head.ensures c.tail_in-tail.ensures
    c.read_block-active_window.ensures
    c.read_block-static_window.ensures
    c.keeps.ensures
    c.if-keeps.false
    in
    record { answer = sym broken; reading = rw broken }
