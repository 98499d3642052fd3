-- `larger`: as many ms are not more.
use mathlib.Core.Path.{refl}
use Rattle.rules.proofs.counting.larger.Goals as goal

pub returns : goal.returns
returns c = refl
