-- `units_in`: each flag is its bit of the mask.
use mathlib.Core.Bool.{false}
use mathlib.Core.Path.{◌∙◌}
use borrow.Author.Rules.{rules}
use Rattle.window.proofs.Lists.{made-each}
use Rattle.window.proofs.block_reader.Laws.{flag_of, mask-flags}
use Rattle.window.proofs.block_reader.units_in.Goals as goal

pub returns : goal.returns
returns c =
    made-each _ _ (flag_of c.args.mask) false (λ n unit f called. (search rules, search rules)) c.from_fn.result c.from_fn.ensures.items
    ∙ mask-flags c.args.mask
