-- A row that does not turn away.
use mathlib.Core.Bool.{Bool, true, false}
use Rattle.std.specs.Prelude.{Option, None}
use mathlib.Core.Path.{◌≡◌, refl}
use Prim.Native.Nat.{ℕ}
use native.Mathlib.Omega.{arith}
use Rattle.logpage.specs.Answers.{row}

-- a row that does not turn away
pub no_row : (n : ℕ) (t : Bool) (later : Option ℕ) → row n t later ≡ None → (t ≡ false) × (later ≡ None)
no_row n false later e = (refl, e)
no_row n true later e = let never : ◌≡◌ {A = ℕ} 0 1 = cc in absurd (omega arith)
