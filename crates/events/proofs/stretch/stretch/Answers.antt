-- `stretch`: what is kept apart makes the monitor that the records so far leave.
use Rattle.std.proofs.Common.{◌+◌, ◌<◌, refl, arith, rules}
use Rattle.monitor.specs.Calls.{play_from}
use Rattle.events.specs.Files.{whole_records, calls_before}
use Rattle.events.proofs.stretch.Laws.{chunk, taken}
use Rattle.events.proofs.stretch.stretch.Goals as goal

pub loop-i-init : goal.loop-i-init
unfolding play_from calls_before
loop-i-init c =
    record {
      steady =
          record {
            in_force = c.of-places.ensures;
            apart = c.active-active.ensures.apart;
          };
      room = λ place. omega (arith, c.active-active.ensures.top place);
      accepted = λ j h. absurd (omega arith);
      played = (search rules, c.active-active.ensures.window);
    }

pub loop-i-preserved : goal.loop-i-preserved
loop-i-preserved c =
    let more : c.loop-i.i < whole_records c.args.s.now = omega (arith, c.as_chunks.ensures.front_len) in
    taken _ _ _ _ _ _ _ c.loop-i.i _ c.loop-i.invariant
    (rw c.as_chunks.ensures.front (chunk c.args.s.now c.loop-i.i more))
    more
    (c.if-not-record.ensures.steady refl)
    (c.if-not-record.ensures.room (4294967295 + c.loop-i.i) c.loop-i.invariant.room)
    (c.if-not-record.ensures.accepted refl)
    (c.if-not-record.ensures.next refl)
