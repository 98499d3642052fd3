-- `stretch`: what is kept apart makes the monitor that the records so far leave.
use Rattle.events.proofs.stretch.Laws.{Stretched}
use Rattle.events.proofs.stretch.stretch.Given as goal

abbrev pub invariant-loop-i : goal.invariant-loop-i
invariant-loop-i l = Stretched l.fn.m l.s l.places.settings l.monitor l.active l.i
