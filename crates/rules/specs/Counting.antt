-- A counted completion: its counter, its counter's stamp, and the debug log. One below threshold A: its kind's count.
use Rattle.std.specs.Prelude.{Bool, cond, ◌&&◌, ◌||◌, List, ℕ, ◌+◌, ◌*◌, ◌/◌, ◌%◌, ◌^◌, min, eqb, leb, ltb, get_or, set}
use Rattle.std.specs.Prelude.{Option, None, Some}
use Rattle.window.specs.Fields.{unset}
use Rattle.logpage.specs.declared.fields.DebugLog.{DebugLog}
use Rattle.window.specs.declared.fields.Window.{Window}

-- 01, Settings: whether counter n's bit is set in a mask
abbrev pub bit : ℕ → ℕ → Bool
bit mask n = eqb (mask / 2 ^ n % 2) 1

-- 01, A completion: a count, held at its top
abbrev pub count_top : ℕ
count_top = 4294967295

abbrev pub held : ℕ → ℕ
held count = min count count_top

-- one more
abbrev pub once_more : ℕ → ℕ
once_more counter = held (counter + 1)

-- counters after one more for counter n
abbrev pub once_more_at : List ℕ → ℕ → List ℕ
once_more_at counters n = set counters n (once_more (get_or counters n 0))

-- 02, Ticket 2: the counts below threshold A, by kind, after a completion of this kind, or of none
abbrev pub counted_below_a : Option ℕ → List ℕ → List ℕ
counted_below_a (Some k) counts = once_more_at counts k
counted_below_a None counts = counts

-- 01, A completion: what mode largest asks for: more ms than were measured (as many are not enough), and a minimum
-- window, in units of 100 ms, that is over since the last load
abbrev pub larger : (latency ms : ℕ) → Bool
larger latency ms = ltb latency ms

abbrev pub waited : (since minimum : ℕ) → Bool
waited since minimum = leb (100 * minimum) since

abbrev pub exceeds : (latency since ms minimum : ℕ) → Bool
exceeds latency since ms minimum = larger latency ms && waited since minimum

-- 01, A completion: whether the stamp is loaded. An unset one always is, a set one in mode largest alone
unfoldable pub loads : (stamp latency since ms : ℕ) (largest : Bool) (minimum : ℕ) → Bool
loads stamp latency since ms largest minimum = eqb stamp unset || (largest && exceeds latency since ms minimum)

-- 01, A completion: the window after one for counter n. A load stores the clock, the ms (document 01: shown latency),
-- and whether the host set the clock (document 01: clock mark)
unfoldable pub counted_in : Bool → (n clock ms : ℕ) (set_by_host : Bool) → Window → Window
counted_in load n clock ms set_by_host w =
    record {
      counters = once_more_at w.counters n;
      stamps = cond load (set w.stamps n clock) w.stamps;
      latencies = cond load (set w.latencies n ms) w.latencies;
      units = cond load (set w.units n set_by_host) w.units;
    }

-- 01, A completion: whether a debug log is taken: the counter's trigger is on and none is held, as its stamp is unset.
-- The count has no part in it
unfoldable pub triggers : (trigger : Bool) (stamp : ℕ) → Bool
triggers trigger stamp = trigger && eqb stamp unset

-- 01, A completion: the debug log of a completion for counter n (document 01: debug record)
abbrev pub debug_log : (n clock ms : ℕ) (set_by_host : Bool) → DebugLog
debug_log n clock ms set_by_host = record { stamp = clock; latency = ms; source = 2 ^ n; units = set_by_host }
