-- `Places::place`: what the two tables have.
use mathlib.Core.Path.{◌≡◌}
use Prim.Native.Nat.{◌+◌}
use lib.ListN.{get_or}
use Rattle.batch.specs.Tally.{count_place}
use Rattle.batch.proofs.tally.Laws.{bucket_in_table, few_places}
use Rattle.batch.proofs.tally.Places.place.Goals.{After-from-2}
use Rattle.batch.proofs.tally.Places.place.Goals as goal

-- a bucket's place and a kind's, by the tables
placed :
    (c : After-from-2) →
    get_or c.args.self.now.buckets c.from.result 0 + c.from-2.result ≡ count_place c.args.self.now.settings c.args.c
placed c =
    let few = rw c.code.ensures.code at c.code.ensures.few in
    rw (
      c.from.ensures,
      c.unwrap_or-bucket.ensures,
      c.bucket.ensures,
      c.args.self.now.by_bucket,
      (bucket_in_table c.args.self.now.settings.thresholds c.args.c).1,
      c.from-2.ensures,
      c.code.ensures.code,
      c.args.self.now.by_kind c.args.c few,
    )

pub bounds-self-from : goal.bounds-self-from
bounds-self-from c =
    rw (c.from.ensures, c.unwrap_or-bucket.ensures, c.bucket.ensures)
    (bucket_in_table c.args.self.now.settings.thresholds c.args.c).0

pub returns-clause-place : goal.returns-clause-place
returns-clause-place c = placed (goal.at.returns-clause-place c).After-from-2

pub returns-clause-few : goal.returns-clause-few
returns-clause-few c =
    rw (placed (goal.at.returns-clause-few c).After-from-2) (few_places c.args.self.now.settings c.args.c)
