-- `run`: before each record, none was refused and the monitor is what the records before it leave.
use Rattle.std.proofs.Common.{◌+◌, sym, ap, ◌∙◌, arith, rules}
use Rattle.records.specs.Records.{says_record}
use Rattle.records.proofs.Laws.{refusal_in, refusal-named, let_through}
use Rattle.events.proofs.files.Laws.{the-record, behind, few-behind, started, went_on}
use Rattle.events.proofs.files.Laws.{ran-far, stopped, ended}
use Rattle.events.proofs.files.run.Goals as goal

pub loop-i-init : goal.loop-i-init
loop-i-init c = started _ _

pub returns-in-Err : goal.returns-in-Err
returns-in-Err c =
    let s =
    stopped _ _ _ _ c.loop-i.i _ _ c.loop-i.invariant (the-record _ c.loop-i.i) c.apply-o.ensures.next
    (refusal-named _ _ _ (sym (ap says_record c.in-Err.is) ∙ c.apply-o.ensures.answer))
    (search rules)
    in
    record { monitor = s.0; refused = s.1 }

pub overflow_add-i-in-loop-i : goal.overflow_add-i-in-loop-i
overflow_add-i-in-loop-i c =
    omega (
      arith,
      few-behind c.args.s.now c.loop-i.i _ (search rules) c.stretch-quick.ensures.records,
    )

pub loop-i-smaller : goal.loop-i-smaller
loop-i-smaller c =
    omega (
      arith,
      few-behind c.args.s.now c.loop-i.i _ (search rules) c.stretch-quick.ensures.records,
    )

pub loop-i-preserved : goal.loop-i-preserved
loop-i-preserved c =
    let one =
    went_on _ _ _ _ c.loop-i.i _ c.loop-i.invariant (the-record _ c.loop-i.i) c.apply-o.ensures.next
    (refusal-named _ _ _ c.apply-o.ensures.answer ∙
    ap (λ answer. refusal_in (says_record answer)) c.in_default.is ∙ let_through _)
    (search rules)
    in
    let monitor = rw (behind c.args.s.now c.loop-i.i (search rules)) at c.stretch-quick.ensures.monitor in
    let records = rw (behind c.args.s.now c.loop-i.i (search rules)) at c.stretch-quick.ensures.records in
    let accepted = rw (behind c.args.s.now c.loop-i.i (search rules)) at c.stretch-quick.ensures.accepted in
    ran-far _ _ _ _ (c.loop-i.i + 1) _ one monitor records accepted

pub returns : goal.returns
returns c =
    let met = ended _ _ _ c.loop-i.i c.loop-i.invariant (search rules) in
    record { monitor = met.0; refused = met.1 }
