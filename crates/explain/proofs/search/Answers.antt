-- A block after which the next one is read is whole and says nothing: its 4,096 records come before the one asked
-- about.
use Rattle.std.proofs.Common.{refl, sym, ◌∙◌, rules, arith}
use Rattle.streams.proofs.Laws.{whole-and-wanted}
use Rattle.events.specs.Explain.{after_part}
use Rattle.events.proofs.Explaining.{ends-before, says_nothing}
use Rattle.explain.proofs.Laws.{left-first, left-next, left-last}
use Rattle.explain.proofs.search.Goals as goal

pub loop-n-init : goal.loop-n-init
loop-n-init g c = record { block = search rules; left = left-first _ _ }

pub loop-n-preserved : goal.loop-n-preserved
loop-n-preserved g c =
    let block = c.in-Continue.ensures in
    let on = whole-and-wanted _ _ (sym block.more) in
    record {
      block = c.fill.auto.s ∙ c.loop-n.invariant.block;
      left =
          left-next _ _ _ _ _ _ _ c.loop-n.invariant.left (rw (← c.in_ok-n.ensures.ok.0) at c.fill.ensures.bytes) on.0
          (says_nothing _ on.1) (block.next _ refl);
    }

pub loop-n-smaller : goal.loop-n-smaller
unfolding after_part
loop-n-smaller g c =
    let block = c.in-Continue.ensures in
    let on = whole-and-wanted _ _ (sym block.more) in
    let fewer = ends-before _ _ (says_nothing _ on.1) in
    rw (block.next _ refl) (omega (arith, fewer, on.0))

pub returns-in-Break-clause-said : goal.returns-in-Break-clause-said
returns-in-Break-clause-said g c =
    let block = c.in-Break.ensures in
    let long = c.fill.auto.s ∙ c.loop-n.invariant.block in
    let (n, none) = c.in_ok-n.ensures.ok in
    rw (block.said _ refl)
    (left-last _ _ _ _ _ _ _ c.loop-n.invariant.left (rw (← n) at c.fill.ensures.bytes) long (omega arith)
    (λ short. c.fill.ensures.end none (omega arith)) (sym block.more))
