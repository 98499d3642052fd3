-- `replay`: before each run, the monitor is what the records before it leave.
use Rattle.std.proofs.Common.{◌≡◌, ◌+◌, ◌*◌, sym, refl, ap, ◌∙◌, arith, rules}
use borrow.Author.Rules.{part_to_end}
use Rattle.monitor.specs.Calls.{play_from}
use Rattle.events.specs.Files.{calls_before, says_refused}
use Rattle.events.proofs.files.Laws.{Replayed, skipped, replayed}
use Rattle.events.proofs.files.replay.Goals.{In-Some}
use Rattle.events.proofs.files.replay.Goals as goal

pub loop-refused-init : goal.loop-refused-init
unfolding play_from calls_before
loop-refused-init c = (search rules, refl)

-- what a run leaves that stopped at a refused record
past :
    (c : goal.In-Some) →
    Replayed c.args.m
    c.args.s.now
    c.run-stop.result.monitor
    (c.loop-refused.i + (c.in-Some.refused.index + 1))
past c =
    let monitor = rw (part_to_end _ (16 * c.loop-refused.i)) at c.run-stop.ensures.monitor in
    let refused = rw (part_to_end _ (16 * c.loop-refused.i)) at c.run-stop.ensures.refused in
    let on : c.loop-refused.i + (c.in-Some.refused.index + 1) ≡ c.loop-refused.i + c.in-Some.refused.index + 1 = omega arith
    in
    rw on
    (skipped _ _ _ _ c.loop-refused.i _ c.loop-refused.invariant (monitor, sym (ap says_refused c.in-Some.is) ∙ refused))

pub overflow_add-i : goal.overflow_add-i
overflow_add-i c = omega (arith, (past (goal.at.overflow_add-i c).In-Some).0)

pub overflow_add-i-in-loop-refused : goal.overflow_add-i-in-loop-refused
overflow_add-i-in-loop-refused c = omega (arith, (past (goal.at.overflow_add-i-in-loop-refused c).In-Some).0)

pub loop-refused-smaller : goal.loop-refused-smaller
loop-refused-smaller c = omega (arith, (past (goal.at.loop-refused-smaller c).In-Some).0)

pub loop-refused-preserved : goal.loop-refused-preserved
loop-refused-preserved c = past (goal.at.loop-refused-preserved c).In-Some

pub returns-in_default : goal.returns-in_default
returns-in_default c =
    let monitor = rw (part_to_end _ (16 * c.loop-refused.i)) at c.run-stop.ensures.monitor in
    let refused = rw (part_to_end _ (16 * c.loop-refused.i)) at c.run-stop.ensures.refused in
    replayed _ _ _ _ c.loop-refused.i c.loop-refused.invariant (monitor, sym (ap says_refused c.in_default.is) ∙ refused)
