-- `time`: four bytes are loaded whole.
use mathlib.Core.Path.{◌∙◌}
use native.Mathlib.Omega.{arith}
use lib.ListN.{drop}
use Rattle.records.specs.Records.{elapsed_of}
use Rattle.records.proofs.Laws.{loaded, fits}
use Rattle.records.proofs.event.time.Goals as goal

pub overflow_cast-result : goal.overflow_cast-result
overflow_cast-result c = record { fits = fits c.args.r.now _ c.load.ensures c.fits-r }

pub returns : goal.returns
unfolding elapsed_of
returns c = c.load.ensures ∙ loaded (drop 4 c.args.r.now) 4 (omega arith)
