-- What a counter's number says, where twelve is that of none: below twelve the counter, else that there is none.
use mathlib.Core.Path.{◌≡◌, refl}
use Prim.Native.Nat.{ℕ, ◌≤◌, ◌<◌}
use native.Mathlib.Omega.{arith}
use Rattle.std.specs.Prelude.{Option, None, Some}
use Rattle.logpage.specs.declared.fields.Settings.{Settings}
use Rattle.rules.specs.declared.commands.Command.{Command}
use Rattle.rules.specs.Commands.{counter_of, counter_number}
use Rattle.rules.proofs.commands.Laws.{counter-below}

module _ (s : Settings) (c : Command) (n : ℕ) (number : n ≡ counter_number (counter_of s c)) where
  pub is-counter : n < 12 → counter_of s c ≡ Some n
  is-counter h = by (counter_of s c) number
    where
      by : (o : Option ℕ) → n ≡ counter_number o → o ≡ Some n
      by (Some k) e = cc
      by None e = absurd (omega arith)

  pub no-counter : 12 ≤ n → counter_of s c ≡ None
  no-counter h = by (counter_of s c) refl number
    where
      by : (o : Option ℕ) → counter_of s c ≡ o → n ≡ counter_number o → o ≡ None
      by None is e = refl
      by (Some k) is e = absurd (omega (arith, counter-below s c k is))
