-- `settings_back`: the settings are copied, or the buffer is not 4,096 bytes.
use mathlib.Core.Path.{refl}
use Rattle.monitor.proofs.report.Laws.{settings-written, settings-refused}
use Rattle.monitor.proofs.record.Monitor.settings_back.Goals as goal

pub returns-then-s-eq-LENGTH : goal.returns-then-s-eq-LENGTH
returns-then-s-eq-LENGTH c =
    let met = settings-written c.args.self c.args.s.now _ _ c.if-s-eq-LENGTH.true
    c.encode-bytes.ensures
    c.copy.ensures in
    record { bytes = met.0; answer = met.1 }

pub returns-else-s-eq-LENGTH : goal.returns-else-s-eq-LENGTH
returns-else-s-eq-LENGTH c =
    let met = settings-refused c.args.self c.args.s.now _ c.if-s-eq-LENGTH.false refl in
    record { bytes = met.0; answer = met.1 }
