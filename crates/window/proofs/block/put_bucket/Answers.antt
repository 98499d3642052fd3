-- `put_bucket`: its four fields are the bucket's bytes.
use mathlib.Core.List.{[], ◌∷◌}
use mathlib.Core.Path.{sym, ◌∙◌}
use Rattle.endian.proofs.Runs.{sets-whole}
use Rattle.window.proofs.Lengths.{length-column}
use Rattle.window.proofs.block.put_bucket.Goals as goal

pub returns : goal.returns
returns c =
    rw (c.from.ensures, c.from-2.ensures, c.from-3.ensures) at c.put_fields.ensures
    ∙ sets-whole c.args.bucket.now _
    (length-column 4 (0 ∷ c.args.deallocate ∷ c.args.write ∷ c.args.read ∷ []) ∙ sym c.requires)
