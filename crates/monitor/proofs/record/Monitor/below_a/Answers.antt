-- `below_a`: of the active window, and of the static one.
use mathlib.Core.Path.{sym, ap}
use Rattle.monitor.specs.Report.{counts_below_a}
use Rattle.monitor.proofs.record.Monitor.below_a.Goals as goal

pub returns-in-Active : goal.returns-in-Active
returns-in-Active c = record { counts = ap (λ w. counts_below_a w c.args.self) (sym c.in-Active.is) }

pub returns-in-Static : goal.returns-in-Static
returns-in-Static c = record { counts = ap (λ w. counts_below_a w c.args.self) (sym c.in-Static.is) }
