-- `Monitor::set_clock`: accepted, and turned away by row 8.
use native.Mathlib.Omega.{arith}
use borrow.Author.Tests.{lt-ltb, le-ltb}
use Rattle.rules.specs.Refusals.{clock_refusal}
use Rattle.monitor.specs.Record.{after_clock, clock_answer}
use Rattle.monitor.proofs.record.Monitor.set_clock.Goals as goal

pub returns-then-value-le-CLOCK_TOP : goal.returns-then-value-le-CLOCK_TOP
unfolding after_clock clock_answer clock_refusal
returns-then-value-le-CLOCK_TOP c =
    let fits = le-ltb 281474976710655 c.args.value (omega arith) in
    record { next = simp fits; answer = simp fits }

pub returns-else-value-le-CLOCK_TOP : goal.returns-else-value-le-CLOCK_TOP
unfolding after_clock clock_answer clock_refusal
returns-else-value-le-CLOCK_TOP c =
    let above = lt-ltb 281474976710655 c.args.value (omega arith) in
    record { next = simp above; answer = simp above }
