-- `Monitor::stamp_reason`: unset; mode first; not larger; within the minimum window; loaded.
use mathlib.Core.Bool.{true, false}
use mathlib.Core.Path.{refl, sym, ◌∙◌}
use borrow.Author.Tests.{eq-eqb, ne_eqb}
use Rattle.monitor.proofs.reasons.Laws.{stamp-reason}
use Rattle.monitor.proofs.record.Monitor.stamp_reason.Goals as goal

pub returns-then-stamps-n : goal.returns-then-stamps-n
returns-then-stamps-n c = stamp-reason _ _ _ _ true _ _ _ c.in_window-time.ensures (eq-eqb _ _ c.if-stamps-n.true) refl refl refl

pub returns-then-not-bit : goal.returns-then-not-bit
returns-then-not-bit c =
    stamp-reason _ _ _ _ false false _ _ c.in_window-time.ensures (ne_eqb _ _ c.if-stamps-n.false)
    (sym c.bit.ensures ∙ c.if-not-bit.true)
    refl
    refl

pub returns-then-not-larger : goal.returns-then-not-larger
returns-then-not-larger c =
    stamp-reason _ _ _ _ false true false _ c.in_window-time.ensures (ne_eqb _ _ c.if-stamps-n.false)
    (sym c.bit.ensures ∙ c.if-not-bit.false)
    (sym c.larger.ensures ∙ c.if-not-larger.true)
    refl

pub returns-then-not-waited : goal.returns-then-not-waited
returns-then-not-waited c =
    stamp-reason _ _ _ _ false true true false c.in_window-time.ensures (ne_eqb _ _ c.if-stamps-n.false)
    (sym c.bit.ensures ∙ c.if-not-bit.false)
    (sym c.larger.ensures ∙ c.if-not-larger.false)
    (sym c.waited.ensures ∙ c.if-not-waited.true)

pub returns-else-not-waited : goal.returns-else-not-waited
returns-else-not-waited c =
    stamp-reason _ _ _ _ false true true true c.in_window-time.ensures (ne_eqb _ _ c.if-stamps-n.false)
    (sym c.bit.ensures ∙ c.if-not-bit.false)
    (sym c.larger.ensures ∙ c.if-not-larger.false)
    (sym c.waited.ensures ∙ c.if-not-waited.false)
