-- `record`: a completion, at its place; the clock and the timer.
use Rattle.std.proofs.Common.{◌≡◌, ◌+◌, Bool, true, false, true≢false, sym, refl, arith}
use Rattle.std.specs.Prelude.{Some}
use Rattle.records.proofs.Laws.{completion-call}
use Rattle.batch.specs.Tally.{AtMost, count_place, completed_by}
use Rattle.batch.proofs.Counts.{room-for-more}
use Rattle.events.proofs.stretch.Laws.{Taken, completed, timed}
use Rattle.events.proofs.stretch.record.Goals.{After-completion-in-Some}
use Rattle.events.proofs.stretch.record.Goals as goal

-- what a completion leaves of the active window, where it is taken
left :
    (c : goal.After-completion-in-Some) →
    c.completion-in-Some.result ≡ true →
    completed_by c.args.monitor.now c.args.active.now (count_place c.args.places.now.settings c.in-Some.c)
    c.in-Some.c ≡
    Some c.completion-in-Some.new.self
left c h = rw (← c.place.ensures.place) (sym (rw h at c.completion-in-Some.ensures.next))

took :
    (c : goal.After-completion-in-Some) →
    c.completion-in-Some.result ≡ true →
    Taken c.args.places.now.settings c.args.monitor.now c.args.active.now c.args.monitor.now c.completion-in-Some.new.self
    c.args.r.now
took c h =
    completed _ _ _ c.requires.steady _ c.in-Some.c _
    (completion-call c.args.r.now c.in-Some.c (sym c.in-Some.ensures))
    (left c h)

pub returns-in-Some-clause-steady : goal.returns-in-Some-clause-steady
returns-in-Some-clause-steady c h = (took (goal.at.returns-in-Some-clause-steady c).After-completion-in-Some h).steady

pub returns-in-Some-clause-accepted : goal.returns-in-Some-clause-accepted
returns-in-Some-clause-accepted c h = (took (goal.at.returns-in-Some-clause-accepted c).After-completion-in-Some h).accepted

pub returns-in-Some-clause-next : goal.returns-in-Some-clause-next
returns-in-Some-clause-next c h = (took (goal.at.returns-in-Some-clause-next c).After-completion-in-Some h).same

pub returns-in-Some-clause-room : goal.returns-in-Some-clause-room
returns-in-Some-clause-room c top few = by c.completion-in-Some.result refl
  where
    by : (t : Bool) → c.completion-in-Some.result ≡ t → AtMost (top + 1) c.completion-in-Some.new.self.counts
    by true h =
        room-for-more _ _ _ _ top c.in-Some.c
        (left (goal.at.returns-in-Some-clause-room c).After-completion-in-Some h)
        few
    by false h = λ place. rw (c.completion-in-Some.ensures.kept h) (omega (arith, few place))

pub returns : goal.returns
returns c =
    let x =
    timed _ _ _ c.requires.steady _ _ c.in-Some-timed.time (sym c.in-Ok.ensures.event) (sym c.in-Some-timed.ensures)
    in
    record {
      kept = λ e. absurd (true≢false e);
      steady = λ _. rw c.with_time.ensures x.steady;
      room = λ top few place. omega (arith, few place);
      accepted = λ _. x.accepted;
      next = λ _. rw c.with_time.ensures x.same;
    }
