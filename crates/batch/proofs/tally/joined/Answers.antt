-- `joined`: counts below threshold A stand behind the counters.
use Rattle.std.proofs.Common.{rules, ◌≡◌, length, ◌∙◌}
use Rattle.batch.specs.Tally.{AtMost}
use Rattle.batch.proofs.tally.Laws.{together, put-behind, at-most-joined, counters-joined, below-joined}
use Rattle.batch.proofs.tally.joined.Goals.{After-widened}
use Rattle.batch.proofs.tally.joined.Goals as goal

whole : (c : After-widened) → c.widened.result ≡ together c.args.counters c.args.below
whole c =
    c.widened.ensures ∙
    rw (c.copy_from_slice.ensures.after, c.copy_from_slice-2.ensures.after)
    (put-behind c.args.counters c.args.below (search rules))

pub returns : goal.returns
returns c =
    let counters : AtMost 4294967295 c.args.counters = search rules in
    let below : AtMost 4294967295 c.args.below = search rules in
    let twelve : length c.args.counters ≡ 12 = search rules in
    let three : length c.args.below ≡ 3 = search rules in
    rw (whole c)
    (record {
      below = below-joined c.args.counters c.args.below twelve three counters below;
      counters = counters-joined c.args.counters c.args.below twelve three counters below;
      top = at-most-joined c.args.counters c.args.below twelve three counters below;
    })
