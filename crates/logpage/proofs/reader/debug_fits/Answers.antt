-- `debug_fits`, by whether a debug log is held.
use borrow.Author.Tests.{eq-eqb, ne_eqb}
use Rattle.window.specs.Fields.{unset}
use Rattle.logpage.specs.Reader.{debug_fits}
use Rattle.logpage.proofs.reader.debug_fits.Goals as goal

pub returns-then-d-eq-UNSET : goal.returns-then-d-eq-UNSET
unfolding debug_fits
returns-then-d-eq-UNSET c = rw (eq-eqb c.args.d.stamp unset c.if-d-eq-UNSET.true)

pub returns-else-d-eq-UNSET : goal.returns-else-d-eq-UNSET
unfolding debug_fits
returns-else-d-eq-UNSET c = rw (ne_eqb c.args.d.stamp unset c.if-d-eq-UNSET.false, c.from.ensures)
