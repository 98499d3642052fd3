-- `Monitor::new`: the parts of the definition.
use Rattle.monitor.specs.Record.{new_monitor}
use Rattle.monitor.proofs.record.Monitor.new.Goals as goal

pub returns : goal.returns
unfolding new_monitor
returns c = simp (c.none-s.ensures, c.empty-w.ensures, c.none-d.ensures)
