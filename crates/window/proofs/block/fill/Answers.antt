-- `fill`: its four parts, one after the other.
use mathlib.Core.Path.{◌≡◌, ◌∙◌}
use borrow.Author.Rules.{rules}
use lib.ListN.{get_or}
use Rattle.window.proofs.Lists.{twelve, each-at}
use Rattle.window.proofs.block.Laws.{block_run}
use Rattle.window.proofs.block.fill.Goals as goal

pub returns : goal.returns
returns c =
    let latencies : c.map.result ≡ c.args.w.latencies =
    each-at (λ n. get_or c.args.w.latencies n 0) c.map.result 0 c.map.ensures.items.long
    (λ n h. let called = c.map.ensures.items.at n 0 0 h in search rules)
    ∙ twelve 0 c.args.w.latencies (search rules)
    in
    block_run c.args.w c.args.block.now _ _ _ _ _ c.requires
    c.put_counters.ensures
    c.put_each.ensures
    (rw latencies at c.put_each-2.ensures)
    c.unit_bits.ensures
    c.put.ensures
