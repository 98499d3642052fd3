-- `highest`: the buckets passed were not reached, so the search among those left decides.
use mathlib.Core.Path.{◌≡◌}
use mathlib.Core.List.{◌∷◌, []}
use Prim.Native.Nat.{◌≤◌}
use Rattle.rules.specs.Commands.{highest_reached}
use Rattle.rules.proofs.commands.highest.Given as goal

abbrev pub invariant-loop-n : goal.invariant-loop-n
invariant-loop-n l = (l.n ≤ 4) × (highest_reached l.reached l.n ≡ highest_reached (l.a ∷ l.b ∷ l.c ∷ l.d ∷ []) 4)

abbrev pub decreases-loop-n : goal.decreases-loop-n
decreases-loop-n l = l.n
