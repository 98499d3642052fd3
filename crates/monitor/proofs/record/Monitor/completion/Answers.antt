-- `Monitor::completion`: below threshold A; counted with the stamp loaded; counted with it kept; not counted.
use mathlib.Core.Path.{◌≡◌, sym, ◌∙◌}
use mathlib.Core.Bool.{Bool, true, false}
use Rattle.rules.specs.Commands.{is_below_a}
use Rattle.rules.proofs.commands.Laws.{fast-uncounted}
use Rattle.monitor.proofs.record.Laws.{uncounted, not-counted, Decided, decide}
use Rattle.monitor.proofs.record.Monitor.completion.Goals.{After-loads}
use Rattle.monitor.proofs.record.Monitor.completion.Goals as goal

-- every value on the way is what its definition says
decided :
    (c : goal.After-loads) (load : Bool) →
    c.loads.result ≡ load →
    Decided c.args.self c.args.c c.in-Some.counter c.milliseconds-ms.result c.logged-self.result
    c.counted_at-counters.result
    c.triggers-debug.result
    load
decided c load e =
    decide _ _ _ _ _ _ _ _ (sym c.in-Some.ensures.counter)
    c.milliseconds-ms.ensures
    (rw c.from-n.ensures at c.triggers-debug.ensures)
    (rw c.from-n.ensures at c.logged-self.ensures)
    c.counted_at-counters.ensures
    (sym e ∙ (rw c.from-n.ensures at c.loads.ensures))

-- neither counted case is that of a completion below threshold A
not-below : (c : goal.After-loads) → false ≡ is_below_a c.args.self.settings c.args.c
not-below c = sym c.if-is_below_a.false ∙ c.is_below_a.ensures

pub returns-then-is_below_a : goal.returns-then-is_below_a
returns-then-is_below_a c =
    let below = sym c.if-is_below_a.true ∙ c.is_below_a.ensures in
    let u = uncounted _ _ _ (fast-uncounted _ _ (sym below)) c.counts_below_a-counts.ensures in
    record { next = u.0; answer = u.1; below_a = below }

pub returns-then-loads : goal.returns-then-loads
returns-then-loads c =
    let d = decided (goal.at.returns-then-loads c).After-loads true c.if-loads.true in
    record { next = rw (c.of-self.ensures, c.in_window.ensures, c.from-n.ensures) d.next; answer = d.answer; below_a = not-below (goal.at.returns-then-loads c).After-loads }

pub returns-else-loads : goal.returns-else-loads
returns-else-loads c =
    let d = decided (goal.at.returns-else-loads c).After-loads false c.if-loads.false in
    record { next = rw c.of-self-else-loads.ensures d.next; answer = d.answer; below_a = not-below (goal.at.returns-else-loads c).After-loads }

pub returns-in_default : goal.returns-in_default
returns-in_default c =
    let not-below = sym c.if-is_below_a.false ∙ c.is_below_a.ensures in
    let u = not-counted _ _ (sym c.in_default.ensures.counter) (sym not-below) in
    record { next = u.0; answer = u.1; below_a = not-below }
