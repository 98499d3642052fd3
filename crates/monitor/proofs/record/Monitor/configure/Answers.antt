-- `Monitor::configure`: turned away by rows 1 to 6; enable 1; enable 0.
use mathlib.Core.Path.{◌≡◌}
use Rattle.std.specs.Prelude.{None}
use native.Mathlib.Omega.{arith}
use Rattle.rules.specs.Refusals.{settings_refusal}
use Rattle.rules.proofs.Refusals.{accepted as accepted-settings}
use Rattle.rules.proofs.settings.Laws.{not-refused}
use Rattle.monitor.proofs.record.Laws.{settings-refused, settings-accepted}
use Rattle.monitor.proofs.record.Monitor.configure.Goals.{In-Ok}
use Rattle.monitor.proofs.record.Monitor.configure.Goals as goal

-- where `check` said Ok, no row turned the settings away
accepted : (c : goal.In-Ok) → settings_refusal c.args.s.now ≡ None
accepted c = not-refused _ c.in-Ok.ensures

pub decode-next-requires : goal.decode-next-requires
decode-next-requires c = omega (arith, (accepted-settings _ (accepted (goal.at.decode-next-requires c).In-Ok)).whole)

pub bounds-s-11 : goal.bounds-s-11
bounds-s-11 c = omega (arith, (accepted-settings _ (accepted (goal.at.bounds-s-11 c).In-Ok)).whole)

pub returns-in-Err : goal.returns-in-Err
returns-in-Err c =
    let met = settings-refused _ _ _ c.in-Err.ensures in
    record { next = met.0; answer = met.1 }

pub returns-then-next : goal.returns-then-next
returns-then-next c =
    let met = settings-accepted _ _ _ _ _ (accepted (goal.at.returns-then-next c).In-Ok)
    c.decode-next.ensures
    c.after_discard-debug.ensures
    c.if-next.true in
    record { next = rw c.empty-w.ensures met.0; answer = met.1 }

pub returns-else-next : goal.returns-else-next
returns-else-next c =
    let met = settings-accepted _ _ _ _ _ (accepted (goal.at.returns-else-next c).In-Ok)
    c.decode-next.ensures
    c.after_discard-debug.ensures
    c.if-next.false in
    record { next = met.0; answer = met.1 }
