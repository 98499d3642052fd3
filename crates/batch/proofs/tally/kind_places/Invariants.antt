-- `kind_places`: the codes below this one have their place.
use Rattle.std.proofs.Common.{◌≡◌, ◌<◌, ℕ, get_or}
use Rattle.batch.specs.Tally.{kind_place}
use Rattle.batch.proofs.tally.Laws.{command_at}
use Rattle.batch.proofs.tally.kind_places.Given as goal

abbrev pub invariant-loop-code : goal.invariant-loop-code
invariant-loop-code l =
    (k : ℕ) → k < l.code → get_or l.place-items k 0 ≡ kind_place l.enabled (command_at k)
