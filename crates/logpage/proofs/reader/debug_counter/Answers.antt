-- `debug_counter`, by whether a debug log is held.
use native.Mathlib.Omega.{arith}
use borrow.Author.Tests.{eq-eqb, ne_eqb}
use lib.Count.{trailing_le}
use Rattle.window.specs.Fields.{unset}
use Rattle.logpage.specs.Reader.{debug_counter_of}
use Rattle.logpage.proofs.reader.debug_counter.Goals as goal

pub overflow_cast-result : goal.overflow_cast-result
overflow_cast-result c = omega (arith, trailing_le 16 c.args.d.source)

pub returns-then-d-eq-UNSET : goal.returns-then-d-eq-UNSET
unfolding debug_counter_of
returns-then-d-eq-UNSET c = rw (eq-eqb c.args.d.stamp unset c.if-d-eq-UNSET.true)

pub returns-else-d-eq-UNSET : goal.returns-else-d-eq-UNSET
unfolding debug_counter_of
returns-else-d-eq-UNSET c = rw (ne_eqb c.args.d.stamp unset c.if-d-eq-UNSET.false)
