-- `values`: the fields fill the array.
use mathlib.Core.Path.{sym, ◌∙◌}
use lib.ListN.{replicate, length-replicate}
use Prim.Native.Nat.{ℕ}
use Rattle.endian.specs.Loads.{values_at}
use Rattle.endian.proofs.Runs.{sets-whole}
use Rattle.logpage.proofs.reader.Laws.{values-long}
use Rattle.logpage.proofs.reader.values.Goals as goal

pub returns : goal.returns
returns g c =
    c.load_fields.ensures ∙
    sets-whole (replicate g.row.N 0) (values_at 0 c.args.widths.now c.args.part.now)
    (values-long 0 c.args.widths.now c.args.part.now ∙
    (c.told-widths ∙ sym (length-replicate {A = ℕ} g.row.N 0)))
