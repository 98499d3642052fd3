-- What acceptance says: no row applies.
use mathlib.Core.Path.{◌≡◌}
use mathlib.Core.Bool.{false}
use mathlib.Core.List.{List}
use Rattle.std.specs.Prelude.{None}
use Prim.Native.Nat.{ℕ, ◌≤◌, ◌<◌}
use native.Mathlib.Omega.{arith}
use lib.Dec.{eqb}
use lib.ListN.{length, drop}
use borrow.Author.Tests.{eqb-true, eqb-false, ltb-false, not-false}
use Rattle.endian.specs.Bytes.{any_set}
use Rattle.logpage.proofs.Rows.{no_row}
use Rattle.rules.specs.Refusals.{either_above, unordered, field_refusal, settings_refusal, elapsed_refusal}
use Rattle.rules.specs.Refusals.{clock_refusal}
use Rattle.rules.specs.Settings.{discard, enable, decoded}

positive : (n : ℕ) → eqb n 0 ≡ false → 0 < n
positive n e = omega (arith, eqb-false n 0 e)

pub record Accepted (s : List ℕ) : Type 0 where
  pub whole : length s ≡ 4096
  pub clear : any_set (drop 13 s) ≡ false
  pub flags : either_above 1 (discard s) (enable s) ≡ false
  pub timed : 0 < (decoded s).timer_threshold
  pub masks : either_above 4095 (decoded s).mode (decoded s).trigger ≡ false

pub accepted : (s : List ℕ) → settings_refusal s ≡ None → Accepted s
unfolding settings_refusal field_refusal
accepted s e =
    let first = no_row 1 _ _ e in
    let second = no_row 2 _ _ first.1 in
    let third = no_row 3 _ _ second.1 in
    let fourth = no_row 4 _ _ third.1 in
    let fifth = no_row 5 (unordered (decoded s).thresholds) _ fourth.1 in
    let sixth = no_row 6 (either_above 4095 (decoded s).mode (decoded s).trigger) None fifth.1 in
    record {
      whole = eqb-true (length s) 4096 (not-false (eqb (length s) 4096) first.0);
      clear = second.0;
      flags = third.0;
      timed = positive _ fourth.0;
      masks = sixth.0;
    }

pub elapsed-fits : (ms : ℕ) → elapsed_refusal ms ≡ None → ms ≤ 300000
unfolding elapsed_refusal
elapsed-fits ms e = ltb-false 300000 ms (no_row 7 _ _ e).0

pub clock-fits : (value : ℕ) → clock_refusal value ≡ None → value ≤ 281474976710655
unfolding clock_refusal
clock-fits value e = ltb-false 281474976710655 value (no_row 8 _ _ e).0
