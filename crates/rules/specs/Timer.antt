-- 01, Time and power: what elapsed time does to the clock and to the Active Bucket Timer.
use Rattle.std.specs.Prelude.{Bool, true, false, cond, ℕ, ◌+◌, ◌-◌, ◌*◌, min, leb, ltb}
use Rattle.rules.specs.declared.timer.Tick.{Tick}

-- the clock after so many ms, up to its top, 2^48 - 1
abbrev pub grown : ℕ → ℕ → ℕ
grown clock ms = min (clock + ms) 281474976710655

-- the timer in increments of five minutes (document 01: steps), the ms since its last increment (document 01: partial
-- step), and whether the window ends
abbrev pub tick : (timer partial : ℕ) (expired : Bool) → Tick
tick timer partial expired = record { timer = timer; partial = partial; expired = expired }

-- after an increment: at the threshold or above, the window ends and the timer starts over; the ms past it are kept
abbrev advanced : (threshold timer partial : ℕ) → Tick
advanced threshold timer partial = cond (leb threshold timer) (tick 0 partial true) (tick timer partial false)

-- after so many ms, at most one increment's worth; while disabled the timer stands still
unfoldable pub ticked : Bool → (threshold timer partial ms : ℕ) → Tick
ticked enabled threshold timer partial ms =
    cond enabled
    (cond (ltb (partial + ms) 300000) (tick timer (partial + ms) false)
    (advanced threshold (timer + 1) (partial + ms - 300000)))
    (tick timer partial false)

-- the time in the active window, in ms
abbrev pub in_window : ℕ → ℕ → ℕ
in_window timer partial = timer * 300000 + partial
