-- `put_counters`: a bucket after the other.
use borrow.Author.Rules.{rules}
use Rattle.endian.specs.Stores.{fields}
use Rattle.window.specs.Block.{buckets}
use Rattle.window.proofs.block.Laws.{buckets-more}
use Rattle.window.proofs.block.put_counters.Goals as goal

pub loop-b-init : goal.loop-b-init
unfolding buckets fields
loop-b-init c = search rules

pub loop-b-preserved : goal.loop-b-preserved
loop-b-preserved c = (buckets-more c.args.counters _ _ _ c.loop-b.b (search rules) (search rules)
    c.loop-b.invariant
    c.put_bucket.ensures
    )
