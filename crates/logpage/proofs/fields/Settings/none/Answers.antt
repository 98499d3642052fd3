-- `Settings::none`: the definition's own text.
use mathlib.Core.Path.{refl}
use Rattle.logpage.specs.Fields.{no_settings}
use Rattle.logpage.proofs.fields.Settings.none.Goals as goal

pub returns : goal.returns
unfolding no_settings
returns c = refl
