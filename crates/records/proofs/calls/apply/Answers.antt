-- `apply`: the call that a record stands for, or none.
use Rattle.monitor.specs.Calls.{play_from}
use Rattle.records.specs.Records.{after_record, record_answer}
use Rattle.records.proofs.calls.apply.Goals as goal

pub returns-in-Ok : goal.returns-in-Ok
unfolding after_record record_answer play_from
returns-in-Ok c =
    record {
      next = rw (← c.in-Ok.ensures.event) c.call.ensures.next;
      answer = rw (← c.in-Ok.ensures.event) c.call.ensures.answer;
    }

pub returns-in-Err : goal.returns-in-Err
unfolding after_record record_answer play_from
returns-in-Err c =
    let none = c.in-Err.ensures.event in
    record { next = rw (← none); answer = rw (← none, c.in-Err.ensures.refusal) }
