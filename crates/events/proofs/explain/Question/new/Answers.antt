-- `Question::new`: four bytes are loaded whole, and fit.
use Rattle.std.proofs.Common.{arith, rules}
use Rattle.std.proofs.lemmas.List.{take_min}
use Rattle.events.proofs.explain.Laws.{asks}
use Rattle.records.proofs.Laws.{loaded, four-fit}
use Rattle.events.proofs.explain.Question.new.Goals as goal

pub overflow_cast-before : goal.overflow_cast-before
overflow_cast-before c =
    omega (
      arith,
      four-fit c.args.number.now _ (rw (c.min.ensures, take_min 4 c.args.number.now) at c.load-before.ensures)
          (λ k. search rules),
    )

pub returns : goal.returns
returns c =
    let number = rw (c.min.ensures, take_min 4 c.args.number.now, loaded c.args.number.now 4 (omega arith)) at c.load-before.ensures in
    record { next = asks _ _ _ c.new-monitor.ensures number; said = c.number_said.ensures }
