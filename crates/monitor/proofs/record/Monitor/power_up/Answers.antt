-- `Monitor::power_up`: the definition's own text.
use mathlib.Core.Path.{refl}
use Rattle.monitor.specs.Record.{after_power_up}
use Rattle.monitor.proofs.record.Monitor.power_up.Goals as goal

pub returns : goal.returns
unfolding after_power_up
returns c = record { next = refl; answer = refl }
