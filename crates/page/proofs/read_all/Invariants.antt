-- Each turn but the last brings 4,096 records, so that handing them on is what ends the loop.
use Rattle.std.proofs.Common.{◌-◌, ◌<◌}
use Rattle.page.proofs.read_all.Given as goal

abbrev pub invariant-loop-next : goal.invariant-loop-next
invariant-loop-next g l = l.progress.next < 4503599627370496

abbrev pub decreases-loop-next : goal.decreases-loop-next
decreases-loop-next g l = 4503599627370496 - l.progress.next
