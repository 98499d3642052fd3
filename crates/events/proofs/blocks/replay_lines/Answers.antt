-- `replay_lines`: before each run, the monitor is what the records before it leave, and their lines are stored.
use Rattle.std.proofs.Common.{◌+◌, ◌*◌, sym, refl, ap, ◌∙◌, arith, rules}
use borrow.Author.Rules.{part_to_end}
use Rattle.monitor.specs.Calls.{play_from}
use Rattle.events.specs.Files.{calls_before, says_refused}
use Rattle.events.proofs.files.Laws.{Replayed, skipped, replayed}
use Rattle.events.proofs.blocks.Laws.{Told, told_none, told_line, told-all, same-room}
use Rattle.events.proofs.blocks.replay_lines.Goals.{After-put_line-len, In-Some}
use Rattle.events.proofs.blocks.replay_lines.Goals as goal

pub loop-refused-init : goal.loop-refused-init
unfolding play_from calls_before
loop-refused-init c = ((search rules, refl), told_none _ _ _)

-- what a run leaves that stopped at a refused record
past :
    (c : goal.In-Some) →
    Replayed c.args.m c.args.s.now c.run-stop.result.monitor
    (c.loop-refused.i + c.in-Some.refused.index + 1)
past c =
    let monitor = rw (part_to_end _ (16 * c.loop-refused.i)) at c.run-stop.ensures.monitor in
    let refused = rw (part_to_end _ (16 * c.loop-refused.i)) at c.run-stop.ensures.refused in
    skipped _ _ _ _ c.loop-refused.i _ c.loop-refused.invariant.0 (monitor, sym (ap says_refused c.in-Some.is) ∙ refused)

-- and its line
line :
    (c : goal.After-put_line-len) →
    Told c.args.first c.args.s.now c.args.out.now c.put_line-len.new.out
    (c.loop-refused.i + c.in-Some.refused.index + 1)
    (c.loop-refused.len + c.put_line-len.result)
line c =
    let e = rw (part_to_end _ (16 * c.loop-refused.i)) at c.run-stop.ensures.refused in
    told_line _ _ _ _ _ c.loop-refused.i _ _ _ c.loop-refused.invariant.0.0 c.loop-refused.invariant.1 (sym (ap says_refused c.in-Some.is) ∙ e)
    c.put_line-len.ensures
    (same-room c.put_line-len.ensures)

pub overflow_add-i : goal.overflow_add-i
overflow_add-i c = omega (arith, (past (goal.at.overflow_add-i c).In-Some).0)

pub put_line-len-requires : goal.put_line-len-requires
put_line-len-requires c = omega (arith, (past (goal.at.put_line-len-requires c).In-Some).0, c.loop-refused.invariant.1.room, c.loop-refused.invariant.1.within)

pub overflow_add-len : goal.overflow_add-len
overflow_add-len c = omega (arith, (past (goal.at.overflow_add-len c).In-Some).0, (line (goal.at.overflow_add-len c).After-put_line-len).within, (line (goal.at.overflow_add-len c).After-put_line-len).room)

pub overflow_add-i-in-loop-refused : goal.overflow_add-i-in-loop-refused
overflow_add-i-in-loop-refused c = omega (arith, (past (goal.at.overflow_add-i-in-loop-refused c).In-Some).0)

pub loop-refused-smaller : goal.loop-refused-smaller
loop-refused-smaller c = omega (arith, (past (goal.at.loop-refused-smaller c).In-Some).0)

pub loop-refused-preserved : goal.loop-refused-preserved
loop-refused-preserved c = (past (goal.at.loop-refused-preserved c).In-Some, line (goal.at.loop-refused-preserved c).After-put_line-len)

pub returns-in_default : goal.returns-in_default
returns-in_default c =
    let monitor = rw (part_to_end _ (16 * c.loop-refused.i)) at c.run-stop.ensures.monitor in
    let refused = rw (part_to_end _ (16 * c.loop-refused.i)) at c.run-stop.ensures.refused in
    let end = sym (ap says_refused c.in_default.is) ∙ refused in
    record {
      monitor = replayed _ _ _ _ c.loop-refused.i c.loop-refused.invariant.0 (monitor, end);
      lines = told-all _ _ _ _ c.loop-refused.i _ c.loop-refused.invariant.0.0 c.loop-refused.invariant.1 end c.requires;
    }
