-- `check_fields`: a return for each row.
use mathlib.Core.Path.{◌≡◌, sym, ◌∙◌}
use mathlib.Core.Bool.{false}
use Rattle.rules.specs.Refusals.{either_above, unordered}
use Rattle.rules.proofs.settings.Laws.{flags-refused, timer-refused, order-refused, bits-refused}
use Rattle.rules.proofs.settings.Laws.{fields-accepted}
use Rattle.rules.proofs.settings.check_fields.Goals.{Else-either_above, Else-unordered}
use Rattle.rules.proofs.settings.check_fields.Goals as goal

-- rows 3 and 5 do not apply, past their tests
flags-pass :
    (c : goal.Else-either_above) →
    either_above 1 c.args.discard c.args.enable ≡ false
flags-pass c = sym (rw (c.from.ensures, c.from-2.ensures) at c.either_above.ensures) ∙ c.if-either_above.false

order-passes :
    (c : goal.Else-unordered) →
    unordered c.args.s.thresholds ≡ false
order-passes c = sym c.unordered.ensures ∙ c.if-unordered.false

pub returns-then-either_above : goal.returns-then-either_above
returns-then-either_above c = flags-refused _ _ _ (sym (rw (c.from.ensures, c.from-2.ensures) at c.either_above.ensures) ∙ c.if-either_above.true)

pub returns-then-s-eq0 : goal.returns-then-s-eq0
returns-then-s-eq0 c = timer-refused _ _ _ (flags-pass (goal.at.returns-then-s-eq0 c).Else-either_above) c.if-s-eq0.true

pub returns-then-unordered : goal.returns-then-unordered
returns-then-unordered c =
    order-refused _ _ _ (flags-pass (goal.at.returns-then-unordered c).Else-either_above) c.if-s-eq0.false
    (sym c.unordered.ensures ∙ c.if-unordered.true)

pub returns-then-either_above-2 : goal.returns-then-either_above-2
returns-then-either_above-2 c =
    bits-refused _ _ _ (flags-pass (goal.at.returns-then-either_above-2 c).Else-either_above) c.if-s-eq0.false (order-passes (goal.at.returns-then-either_above-2 c).Else-unordered)
    (sym c.either_above-else-unordered.ensures ∙ c.if-either_above-2.true)

pub returns-else-either_above-2 : goal.returns-else-either_above-2
returns-else-either_above-2 c =
    fields-accepted _ _ _ (flags-pass (goal.at.returns-else-either_above-2 c).Else-either_above) c.if-s-eq0.false (order-passes (goal.at.returns-else-either_above-2 c).Else-unordered)
    (sym c.either_above-else-unordered.ensures ∙ c.if-either_above-2.false)
