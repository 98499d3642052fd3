-- `read_block`: the arrays, read by their places, are the window's.
use mathlib.Core.Path.{◌∙◌}
use borrow.Author.Rules.{rules}
use Rattle.window.specs.Block.{counter_place, stamp_place, latency_place}
use Rattle.window.proofs.Lists.{made-each}
use Rattle.window.proofs.block_reader.Laws.{field_of, block_read}
use Rattle.window.proofs.block_reader.read_block.Goals as goal

pub returns : goal.returns
returns c =
    let block = c.args.block.now in
    c.of.ensures
    ∙ block_read block c.from_fn.result c.from_fn-2.result c.from_fn-3.result c.field.result c.units_in.result
    (made-each _ _ (field_of counter_place 4 block) 0 (λ n x f called. (search rules, search rules)) c.from_fn.result c.from_fn.ensures.items)
    (made-each _ _ (field_of stamp_place 8 block) 0 (λ n x f called. (search rules, search rules)) c.from_fn-2.result c.from_fn-2.ensures.items)
    (made-each _ _ (field_of latency_place 2 block) 0 (λ n x f called. (search rules, search rules)) c.from_fn-3.result c.from_fn-3.ensures.items)
    c.field.ensures.value
    c.units_in.ensures
