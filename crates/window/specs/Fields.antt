-- The plain fields of a window.
use Rattle.std.specs.Prelude.{Bool, false, List, [], ◌∷◌, ◌≡◌, ℕ, zero, suc, ◌<◌, length, get_or, replicate}
use Rattle.window.specs.declared.fields.Window.{Window}

-- 01, The monitor's record: all ones stand for a stamp that is not set
abbrev pub unset : ℕ
unset = 0xffff_ffff_ffff_ffff

-- a window of these arrays, by counter number; document 01 calls the latencies shown, and the units clock marks
abbrev pub window_of : List ℕ → List ℕ → List ℕ → List Bool → Window
window_of counters stamps latencies units =
    record { counters = counters; stamps = stamps; latencies = latencies; units = units }

-- 01, The monitor's record: a window in which nothing was counted
unfoldable pub empty_window : Window
empty_window =
    record {
      counters = replicate 12 0;
      stamps = replicate 12 unset;
      latencies = replicate 12 0;
      units = replicate 12 false;
    }

-- f i, f (i + 1), .., n of them; and f 0 to f 11, of the twelve counters
unfoldable pub from : {A : Type 0} → (i n : ℕ) → (ℕ → A) → List A
from i zero f = []
from i (suc n) f = f i ∷ from (suc i) n f

abbrev pub each : {A : Type 0} → (ℕ → A) → List A
each f = from 0 12 f

-- what the code's types hold
pub record FitsWindow (w : Window) : Type 0 where
  pub twelve_counters : length w.counters ≡ 12
  pub counters : (n : ℕ) → get_or w.counters n 0 < 4294967296
  pub twelve_stamps : length w.stamps ≡ 12
  pub stamps : (n : ℕ) → get_or w.stamps n 0 < 18446744073709551616
  pub twelve_latencies : length w.latencies ≡ 12
  pub latencies : (n : ℕ) → get_or w.latencies n 0 < 65536
  pub twelve_units : length w.units ≡ 12
