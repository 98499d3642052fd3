-- `DebugLog::none`: the definition's own text.
use mathlib.Core.Path.{refl}
use Rattle.logpage.specs.Fields.{no_debug_log}
use Rattle.logpage.proofs.fields.DebugLog.none.Goals as goal

pub returns : goal.returns
unfolding no_debug_log
returns c = refl
