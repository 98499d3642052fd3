-- Each block but the last holds 4,096 records that come before the one asked about, which ends the loop.
use Rattle.std.proofs.Common.{◌≡◌, length}
use Rattle.explain.proofs.Laws.{Left}
use Rattle.explain.proofs.search.Given as goal

abbrev pub invariant-loop-n : goal.invariant-loop-n
invariant-loop-n g l = record {
  block : length l.block ≡ 65536;
  left : Left l.initial.question (g.R.Read.remaining l.initial.input) l.question (g.R.Read.remaining l.input);
}

abbrev pub decreases-loop-n : goal.decreases-loop-n
decreases-loop-n g l = l.question.before
