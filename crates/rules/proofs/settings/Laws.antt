-- The rows that turn settings away, a law for each: the rows before it do not apply, and it does.
use mathlib.Core.Path.{◌≡◌, refl}
use mathlib.Core.Bool.{true, false}
use Rattle.std.specs.Prelude.{Option, Some, None}
use mathlib.Core.List.{List, [], ◌∷◌}
use Prim.Native.Nat.{ℕ}
use native.Mathlib.Omega.{arith}
use lib.ListN.{length, drop, get_or, replicate}
use lib.Seq.{sets}
use borrow.Author.Tests.{eq-eqb, ne_eqb}
use Rattle.endian.specs.Bytes.{any_set}
use Rattle.endian.specs.Stores.{low_first, fields}
use Rattle.window.specs.Block.{flag}
use Rattle.logpage.specs.declared.fields.Settings.{Settings}
use Rattle.rules.specs.Answers.{done, refused, unless_refused}
use Rattle.rules.specs.Settings.{decoded, encoded, discard as discard_of, enable as enable_of}
use Rattle.rules.specs.Refusals.{settings_refusal, field_refusal, either_above, unordered}

-- what an answer tells of the row
pub not-refused : (r : Option ℕ) → done ≡ unless_refused r done → r ≡ None
not-refused None e = refl
not-refused (Some n) e = cc

pub refused-by : (r : Option ℕ) (n : ℕ) → refused n ≡ unless_refused r done → r ≡ Some n
refused-by None n e = let never : ◌≡◌ {A = ℕ} 0 1 = cc in absurd (omega arith)
refused-by (Some k) n e = cc

module _ (s : List ℕ) where
  pub length-refused : (length s ≡ 4096 → ⊥) → refused 1 ≡ unless_refused (settings_refusal s) done
  unfolding settings_refusal
  length-refused other = rw (ne_eqb (length s) 4096 other)

  module _ (whole : length s ≡ 4096) where
    pub reserved-refused : any_set (drop 13 s) ≡ true → refused 2 ≡ unless_refused (settings_refusal s) done
    unfolding settings_refusal
    reserved-refused used = rw (eq-eqb (length s) 4096 whole, used)

    pub fields-decide :
        any_set (drop 13 s) ≡ false →
        unless_refused (field_refusal (discard_of s) (enable_of s) (decoded s)) done ≡ unless_refused (settings_refusal s) done
    unfolding settings_refusal
    fields-decide clear = rw (eq-eqb (length s) 4096 whole, clear)

module _ (discard enable : ℕ) (s : Settings) where
  pub flags-refused :
      either_above 1 discard enable ≡ true →
      refused 3 ≡ unless_refused (field_refusal discard enable s) done
  unfolding field_refusal
  flags-refused above = rw above

  module _ (flags : either_above 1 discard enable ≡ false) where
    pub timer-refused :
        s.timer_threshold ≡ 0 →
        refused 4 ≡ unless_refused (field_refusal discard enable s) done
    unfolding field_refusal
    timer-refused zero = rw (flags, eq-eqb s.timer_threshold 0 zero)

    module _ (timed : s.timer_threshold ≡ 0 → ⊥) where
      pub order-refused :
          unordered s.thresholds ≡ true →
          refused 5 ≡ unless_refused (field_refusal discard enable s) done
      unfolding field_refusal
      order-refused above = rw (flags, ne_eqb s.timer_threshold 0 timed, above)

      module _ (order : unordered s.thresholds ≡ false) where
        pub bits-refused :
            either_above 4095 s.mode s.trigger ≡ true →
            refused 6 ≡ unless_refused (field_refusal discard enable s) done
        unfolding field_refusal
        bits-refused above = rw (flags, ne_eqb s.timer_threshold 0 timed, order, above)

        pub fields-accepted :
            either_above 4095 s.mode s.trigger ≡ false →
            done ≡ unless_refused (field_refusal discard enable s) done
        unfolding field_refusal
        fields-accepted clear = rw (flags, ne_eqb s.timer_threshold 0 timed, order, clear)

-- the settings in force as fields, in an array of zeros
pub encodes :
    (s : Settings) →
    sets (replicate 4096 0) 0
    (fields (2 ∷ 1 ∷ 1 ∷ 1 ∷ 1 ∷ 2 ∷ 1 ∷ 2 ∷ 1 ∷ 1 ∷ [])
    (s.timer_threshold ∷ get_or s.thresholds 0 0 ∷ get_or s.thresholds 1 0 ∷ get_or s.thresholds 2 0 ∷ get_or s.thresholds 3 0
    ∷ s.mode ∷ s.minimum_window ∷ s.trigger ∷ 0 ∷ flag s.enabled ∷ []))
    ≡ encoded s
unfolding fields low_first encoded
encodes s = refl

pub length-encoded : (s : Settings) → length (encoded s) ≡ 4096
unfolding low_first encoded
length-encoded s = refl
