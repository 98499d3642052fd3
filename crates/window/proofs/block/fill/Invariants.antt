-- `fill`: the stamps start at 64, and the latencies at 160.
use Rattle.window.proofs.block.fill.Given as goal

abbrev pub ghost-put_each : goal.ghost-put_each
ghost-put_each a = 64

abbrev pub ghost-put_each-2 : goal.ghost-put_each-2
ghost-put_each-2 a = 160
