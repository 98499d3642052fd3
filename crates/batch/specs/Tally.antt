-- The active window, taken out of the record for a loop over many completions. Its counts stand in one list: counter
-- n's at place n, and those below threshold A, by kind, at 12 to 14. A place from 15 on is that of no count. Counts go
-- on past their top, where the record holds them.
use Rattle.std.specs.Prelude.{Bool, false, cond, not, ◌&&◌, ◌||◌, List, map, length, ◌≡◌, ℕ, ◌+◌, ◌-◌, ◌*◌, ◌<◌, ◌≤◌, eqb, ltb, get_or, set, take, drop}
use Rattle.std.specs.Prelude.{Option, None, Some, unwrap_or, option_map}
use Rattle.window.specs.Fields.{unset, window_of}
use Rattle.logpage.specs.declared.fields.Settings.{Settings}
use Rattle.rules.specs.declared.commands.Command.{Command}
use Rattle.monitor.specs.declared.record.Monitor.{Monitor}
use Rattle.batch.specs.declared.parts.Active.{Active}
use Rattle.batch.specs.declared.parts.Stamp.{Stamp}
use Rattle.batch.specs.declared.parts.Stamped.{Stamped}
use Rattle.rules.specs.Commands.{kind_of, bucket_of, milliseconds_of, latency_above}
use Rattle.rules.specs.Counting.{held, bit, loads}
use Rattle.monitor.specs.Calls.{only_if}
use Rattle.monitor.specs.Fields.{with_active_window}
use Rattle.monitor.specs.Record.{triggers_at}
use Rattle.rules.specs.Refusals.{unordered}
use Rattle.rules.specs.Timer.{in_window}

-- the place of a bucket's first count; a latency without a bucket is below threshold A
abbrev pub bucket_place : Option ℕ → ℕ
bucket_place (Some bucket) = 3 * bucket
bucket_place None = 12

-- all that a command's kind depends on: the opcode, and the deallocate attribute or bit
abbrev pub code_of : Command → ℕ
code_of c = 2 * c.opcode + cond c.deallocate 1 0

-- what the kind adds to the bucket's place: 15, past every count, where there is none or the monitor is disabled
unfoldable pub kind_place : Bool → Command → ℕ
kind_place enabled c = cond enabled (unwrap_or (kind_of c) 15) 15

-- a table of that, by code; an opcode is a byte
abbrev pub KindPlaces : Bool → List ℕ → Type 0
KindPlaces enabled places = (c : Command) → code_of c < 512 → get_or places (code_of c) 0 ≡ kind_place enabled c

-- the place of a completion's count
abbrev pub count_place : Settings → Command → ℕ
count_place s c = bucket_place (bucket_of s.thresholds c) + kind_place s.enabled c

-- the counts as the record holds them
abbrev pub held_all : List ℕ → List ℕ
held_all counts = map held counts

abbrev pub AtMost : ℕ → List ℕ → Type 0
AtMost top counts = (place : ℕ) → get_or counts place 0 ≤ top

-- the counter of a place, and 0 where it is no counter's
abbrev pub counter_at_place : ℕ → ℕ
counter_at_place place = cond (ltb place 12) place 0

-- every latency but the largest is below it
abbrev no_bound : ℕ
no_bound = 4294967295

-- the latency from which on a completion for counter n may load this stamp, or takes a debug log: any, where the stamp is
-- unset or the debug log triggers; in mode largest one of more ms than were measured; else none
unfoldable pub bound_for : Monitor → (n stamp latency : ℕ) → ℕ
bound_for m n stamp latency =
    cond (triggers_at m n || eqb stamp unset) 0 (cond (bit m.settings.mode n) (latency_above latency) no_bound)

abbrev pub counter_bound : Monitor → ℕ → ℕ
counter_bound m n = bound_for m n (get_or m.active_window.stamps n 0) (get_or m.active_window.latencies n 0)

-- the latency from which on a completion may do more than count at a place; with thresholds out of order the place says
-- nothing, so any may
unfoldable pub bound_at : Monitor → ℕ → ℕ
bound_at m place =
    cond (unordered m.settings.thresholds) 0 (cond (ltb place 12) (counter_bound m place) no_bound)

abbrev pub Bounds : Monitor → List ℕ → Type 0
Bounds m bounds = (place : ℕ) → place < 15 → get_or bounds place 0 ≡ bound_at m place

-- whether a completion at a place has a counter, thresholds being in order, and takes no debug log
unfoldable pub at_most_loads : Monitor → ℕ → Bool
at_most_loads m place =
    ltb place 12 && (not (unordered m.settings.thresholds) && not (triggers_at m place))

-- counter n's stamp in the active window, with all that is kept beside it
abbrev pub stamp_at : Active → ℕ → Stamp
stamp_at a n =
    record {
      stamp = get_or a.stamps n 0;
      latency = get_or a.latencies n 0;
      units = get_or a.units n false;
      loaded = get_or a.loaded n 0;
    }

-- 01, A completion, by its place: its counter's stamp afterwards with all that a load stores beside it, and the bound of
-- the place; none where these and its count are not all that it changes
unfoldable pub stamped_by : Monitor → (place : ℕ) → Command → Stamp → Option Stamped
stamped_by m place c s =
    let ms : ℕ = milliseconds_of c in
    let time : ℕ = in_window m.timer m.partial in
    let load : Bool =
    loads s.stamp s.latency (time - s.loaded) ms (bit m.settings.mode place) m.settings.minimum_window
    in
    let next : Stamp = cond load (record { stamp = m.clock; latency = ms; units = m.host_set; loaded = time }) s in
    only_if (at_most_loads m place) (record { stamp = next; bound = bound_for m place next.stamp next.latency })

-- one more at a place, not held: that comes when the record is put together
abbrev pub one_more_at : List ℕ → ℕ → List ℕ
one_more_at counts p = set counts p (get_or counts p 0 + 1)

-- the active window with other counts
abbrev pub with_counts : Active → List ℕ → Active
with_counts a counts =
    record {
      counts = counts;
      bounds = a.bounds;
      stamps = a.stamps;
      latencies = a.latencies;
      units = a.units;
      loaded = a.loaded;
    }

-- the active window after a completion at place p, for counter n
abbrev pub stamped_in : Active → (p n : ℕ) → Stamped → Active
stamped_in a p n l =
    record {
      counts = one_more_at a.counts p;
      bounds = set a.bounds p l.bound;
      stamps = set a.stamps n l.stamp.stamp;
      latencies = set a.latencies n l.stamp.latency;
      units = set a.units n l.stamp.units;
      loaded = set a.loaded n l.stamp.loaded;
    }

-- the active window after a completion at a place; none where it does more than count there and load its counter's stamp
unfoldable pub completed_by : Monitor → Active → (place : ℕ) → Command → Option Active
completed_by m a place c =
    let n : ℕ = counter_at_place place in
    cond (ltb c.latency (get_or a.bounds place 0)) (Some (with_counts a (one_more_at a.counts place)))
    (option_map (stamped_in a place n) (stamped_by m place c (stamp_at a n)))

-- the record with another active window
abbrev pub with_active : Monitor → Active → Monitor
with_active m a =
    with_active_window m (window_of (take 12 (held_all a.counts)) a.stamps a.latencies a.units)
    a.loaded
    (take 3 (drop 12 (held_all a.counts)))

-- an active window that is kept apart from a record: its bounds are those of the record with it
pub record Apart (m : Monitor) (a : Active) : Type 0 where
  pub bounds : Bounds (with_active m a) a.bounds
  pub places : length a.bounds ≡ 28
  pub stamps : length a.stamps ≡ 12
  pub latencies : length a.latencies ≡ 12
