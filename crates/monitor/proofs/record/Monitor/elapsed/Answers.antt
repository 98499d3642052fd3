-- `Monitor::elapsed`: the window ends; it goes on; turned away by row 7.
use borrow.Author.Tests.{lt-ltb}
use Rattle.rules.specs.Refusals.{elapsed_refusal}
use Rattle.monitor.proofs.record.Laws.{elapsed-accepted}
use Rattle.monitor.specs.Record.{after_elapsed, elapsed_answer}
use Rattle.monitor.proofs.record.Monitor.elapsed.Goals as goal

pub returns-then-t : goal.returns-then-t
returns-then-t c =
    let met = elapsed-accepted _ _ _ _ _ c.if-ms-le-ELAPSED_TOP.true c.ticked-t.ensures c.grown.ensures c.if-t.true in
    record { next = rw c.empty-e.ensures met.0; answer = met.1 }

pub returns-else-t : goal.returns-else-t
returns-else-t c =
    let met = elapsed-accepted _ _ _ _ _ c.if-ms-le-ELAPSED_TOP.true c.ticked-t.ensures c.grown.ensures c.if-t.false in
    record { next = met.0; answer = met.1 }

pub returns-else-ms-le-ELAPSED_TOP : goal.returns-else-ms-le-ELAPSED_TOP
unfolding after_elapsed elapsed_answer elapsed_refusal
returns-else-ms-le-ELAPSED_TOP c = record { next = simp (lt-ltb _ _ c.if-ms-le-ELAPSED_TOP.false); answer = simp (lt-ltb _ _ c.if-ms-le-ELAPSED_TOP.false) }
