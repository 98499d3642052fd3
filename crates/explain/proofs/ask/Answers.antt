-- What is said by the number's bytes, or else by the file behind them, is what is said of the input.
use Rattle.std.proofs.Common.{sym, ◌∙◌, arith}
use Rattle.explain.proofs.Laws.{asked-number, asked-file}
use Rattle.explain.proofs.ask.Goals as goal

pub returns-then-is_some : goal.returns-then-is_some
returns-then-is_some g c =
    let (n, none) = c.in_ok-n.ensures.ok in
    asked-number _ _ _ _ _ (rw (← n) at c.fill.ensures.bytes) (omega arith) (omega arith)
    (λ short. c.fill.ensures.end none (omega arith)) c.new-e.ensures.said
    (sym c.is_some.ensures ∙ c.if-is_some.true)

pub returns-else-is_some : goal.returns-else-is_some
returns-else-is_some g c =
    let (n, none) = c.in_ok-n.ensures.ok in
    asked-file _ _ _ _ _ (rw (← n) at c.fill.ensures.bytes) (omega arith) (omega arith)
    (λ short. c.fill.ensures.end none (omega arith)) c.new-e.ensures.said _ _
    (sym c.is_some.ensures ∙ c.if-is_some.false) c.new-e.ensures.next
    c.search.ensures.said
