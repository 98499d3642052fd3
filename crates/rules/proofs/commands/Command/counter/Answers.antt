-- `Command::counter`: disabled, below threshold A, of no kind, and of a kind.
use mathlib.Core.Path.{◌≡◌, sym, ap, ◌∙◌}
use native.Mathlib.Omega.{arith}
use Rattle.std.proofs.lemmas.Bool.{not-true, not-false}
use Rattle.rules.specs.Commands.{bucket_of, kind_of, counter_at, counter_of, counter_number}
use Rattle.rules.proofs.commands.Laws.{bucket-few, kind-few, at-no-kind, slow-counter}
use Rattle.rules.proofs.commands.Command.counter.Goals.{After-bucket}
use Rattle.rules.proofs.commands.Command.counter.Goals as goal

-- past both tests the counter is that of the bucket and the kind
slow :
    (c : goal.After-bucket) →
    counter_of c.args.s c.args.self ≡ counter_at (bucket_of c.args.s.thresholds c.args.self) (kind_of c.args.self)
slow c =
    slow-counter c.args.s c.args.self (not-false c.args.s.enabled c.if-not-s.false)
    (sym c.reaches.ensures ∙ c.if-not-reaches.false)

pub returns-then-not-s-clause-counter : goal.returns-then-not-s-clause-counter
unfolding counter_of
returns-then-not-s-clause-counter c = rw (not-true c.args.s.enabled c.if-not-s.true)

pub returns-then-not-reaches-clause-counter : goal.returns-then-not-reaches-clause-counter
unfolding counter_of
returns-then-not-reaches-clause-counter c =
    rw (not-false c.args.s.enabled c.if-not-s.false, sym c.reaches.ensures ∙ c.if-not-reaches.true)

pub returns-in_err-bucket-clause-counter : goal.returns-in_err-bucket-clause-counter
returns-in_err-bucket-clause-counter c =
    c.from_residual.ensures ∙
    rw (slow (goal.at.returns-in_err-bucket-clause-counter c).After-bucket, ← c.in_err-bucket.ensures)

pub returns-in_err-kind-clause-counter : goal.returns-in_err-kind-clause-counter
returns-in_err-kind-clause-counter c =
    c.from_residual-in_err-kind.ensures ∙
    rw (
      slow (goal.at.returns-in_err-kind-clause-counter c).After-bucket,
      ← c.in_err-kind.ensures,
      at-no-kind (bucket_of c.args.s.thresholds c.args.self),
    )

pub overflow_mul-result : goal.overflow_mul-result
overflow_mul-result c =
    let few = bucket-few _ _ _ (sym (c.in_ok-bucket.ensures)) in
    record { fits = omega arith }

pub overflow_add-result : goal.overflow_add-result
overflow_add-result c =
    let few = bucket-few _ _ _ (sym (c.in_ok-bucket.ensures)) in
    let kinds = kind-few _ _ (sym (c.in_ok-kind.ensures)) in
    record { fits = omega (arith, c.from.ensures) }

pub returns-clause-counter : goal.returns-clause-counter
returns-clause-counter c =
    rw (
      slow (goal.at.returns-clause-counter c).After-bucket,
      ← c.in_ok-bucket.ensures,
      ← c.in_ok-kind.ensures,
      c.from.ensures,
    )

pub returns-clause-below : goal.returns-clause-below
returns-clause-below c =
    let few = bucket-few _ _ _ (sym c.in_ok-bucket.ensures) in
    let kinds = kind-few _ _ (sym c.in_ok-kind.ensures) in
    omega (arith, c.from.ensures)

pub returns-then-not-s-clause-number : goal.returns-then-not-s-clause-number
returns-then-not-s-clause-number c = ap counter_number (returns-then-not-s-clause-counter c)

pub returns-then-not-reaches-clause-number : goal.returns-then-not-reaches-clause-number
returns-then-not-reaches-clause-number c = ap counter_number (returns-then-not-reaches-clause-counter c)

pub returns-in_err-bucket-clause-number : goal.returns-in_err-bucket-clause-number
returns-in_err-bucket-clause-number c = ap counter_number (returns-in_err-bucket-clause-counter c)

pub returns-in_err-kind-clause-number : goal.returns-in_err-kind-clause-number
returns-in_err-kind-clause-number c = ap counter_number (returns-in_err-kind-clause-counter c)

pub returns-clause-number : goal.returns-clause-number
returns-clause-number c = ap counter_number (returns-clause-counter c)
