-- Increments and windows as numbers: t is the time while enabled, p the timer timer_threshold_of, ms the time that passes.
use Prim.Native.Nat.{ℕ, suc, ◌+◌, ◌*◌, ◌-◌, ◌/◌, ◌%◌, ◌≤◌, ◌<◌}
use mathlib.Core.Path.{◌≡◌, sym, ◌∙◌}
use native.Mathlib.Nat.{le-div_iff_mul-le, div-div-eq-div-mul, div-eq_of_lt-le, div-mul-le_self, lt-div-mul-add}
use native.Mathlib.Nat.{div-add-mod'}
use native.Mathlib.Omega.{arith}

nested : (t p : ℕ) → t / (300000 * p) ≡ t / 300000 / p
nested t p = sym (div-div-eq-div-mul t 300000 p)

pub low : (t p : ℕ) → t / (300000 * p) * p ≤ t / 300000
low t p = rw (nested t p) (div-mul-le_self (t / 300000) p)

pub high : (t p : ℕ) → 0 < p → t / 300000 < t / (300000 * p) * p + p
high t p h = rw (nested t p) (lt-div-mul-add h)

-- the window's number, from bounds on the increments
is-window : (t p n : ℕ) → n * p ≤ t / 300000 → t / 300000 < n * p + p → t / (300000 * p) ≡ n
is-window t p n a b = nested t p ∙ div-eq_of_lt-le p a (omega arith)

-- no increment
module _ (t ms p : ℕ) (positive : 0 < p) (few : t % 300000 + ms < 300000) where
  pub none-taken : (t + ms) / 300000 ≡ t / 300000
  none-taken = omega arith

  pub none-partial : (t + ms) % 300000 ≡ t % 300000 + ms
  none-partial = omega arith

  pub none-window : (t + ms) / (300000 * p) ≡ t / (300000 * p)
  none-window =
      is-window (t + ms) p (t / (300000 * p)) (rw none-taken (low t p)) (rw none-taken (high t p positive))

-- one increment
module _ (t ms : ℕ) (fits : ms ≤ 300000) (many : 300000 ≤ t % 300000 + ms) where
  pub one-taken : (t + ms) / 300000 ≡ t / 300000 + 1
  one-taken = omega arith

  pub one-partial : (t + ms) % 300000 ≡ t % 300000 + ms - 300000
  one-partial = omega arith

  module _ (p : ℕ) (positive : 0 < p) where
    -- the window goes on
    pub goes_on : t / 300000 - t / (300000 * p) * p + 1 < p → (t + ms) / (300000 * p) ≡ t / (300000 * p)
    goes_on h =
        is-window (t + ms) p (t / (300000 * p)) (rw one-taken (omega (arith, low t p)))
        (rw one-taken (omega (arith, low t p)))

    -- the window ends
    pub ends : p ≤ t / 300000 - t / (300000 * p) * p + 1 → (t + ms) / (300000 * p) ≡ suc (t / (300000 * p))
    ends h =
        is-window (t + ms) p (suc (t / (300000 * p))) (rw one-taken (omega (arith, low t p, high t p positive)))
        (rw one-taken (omega (arith, low t p, high t p positive)))

    pub ends-timer : p ≤ t / 300000 - t / (300000 * p) * p + 1 → (t + ms) / 300000 - (t + ms) / (300000 * p) * p ≡ 0
    ends-timer h = rw (one-taken, ends h) (omega (arith, low t p, high t p positive))

-- the time in the active window
pub in_window_lem : (t p : ℕ) → (t / 300000 - t / (300000 * p) * p) * 300000 + t % 300000 ≡ t % (300000 * p)
in_window_lem t p = omega (arith, low t p, div-add-mod' t (300000 * p))

pub later : (t ms w : ℕ) → 0 < w → t / w ≤ (t + ms) / w
later t ms w h = (le-div_iff_mul-le h).1 (omega (arith, div-mul-le_self t w))

pub one_more : (t p : ℕ) → t / 300000 - t / (300000 * p) * p + 1 ≡ t / 300000 + 1 - t / (300000 * p) * p
one_more t p = omega (arith, low t p)
