-- `Monitor::loads`: unset; mode largest; mode first.
use borrow.Author.Tests.{eq-eqb, ne_eqb}
use Rattle.rules.specs.Counting.{loads}
use Rattle.monitor.proofs.record.Monitor.loads.Goals as goal

pub returns-then-stamps-n : goal.returns-then-stamps-n
unfolding loads
returns-then-stamps-n c = rw (eq-eqb _ _ c.if-stamps-n.true)

pub returns-then-bit : goal.returns-then-bit
unfolding loads
returns-then-bit c =
    let set = ne_eqb _ _ c.if-stamps-n.false in
    rw (set, ← c.bit.ensures, c.if-bit.true, ← c.in_window-time.ensures) c.exceeds.ensures

pub returns-else-bit : goal.returns-else-bit
unfolding loads
returns-else-bit c = rw (ne_eqb _ _ c.if-stamps-n.false, ← c.bit.ensures, c.if-bit.false)
