-- How the quick way is tied to the rules. No promise to a buyer rests on this crate: what an event file makes of a
-- monitor is promised by the calls' own definitions, and these claims are what the proof of that goes by.
use Rattle.std.specs.Prelude.{◌≡◌, ℕ, ◌<◌, length, set}
use Rattle.std.specs.Prelude.{None, Some}
use Rattle.rules.specs.declared.commands.Command.{Command}
use Rattle.monitor.specs.declared.record.Monitor.{Monitor}
use Rattle.monitor.specs.Calls.{Call, after, refusal_of}
use Rattle.monitor.specs.Record.{after_completion}
use Rattle.batch.specs.declared.parts.Active.{Active}
use Rattle.batch.specs.declared.parts.Stamped.{Stamped}
use Rattle.batch.specs.declared.parts.Time.{Time}
use Rattle.batch.specs.Passing.{time_by, with_time}
use Rattle.batch.specs.Tally.{count_place, counter_at_place, bound_at, Bounds, one_more_at, with_counts, stamp_at, stamped_by}
use Rattle.batch.specs.Tally.{stamped_in, completed_by, with_active, Apart}

-- the clock and the timer that a call leaves are all that its own rule changes, and nothing turns it away
abbrev pub Alone : Monitor → Call → Time → Type 0
Alone m c t = (with_time m t ≡ after c m) × (refusal_of c ≡ None)

-- a call that is said to change the clock and the timer alone does so
abbrev pub TimeAlone : Type 0
TimeAlone = (m : Monitor) (c : Call) (t : Time) → time_by m c ≡ Some t → Alone m c t

-- a completion below the bound of its place does nothing but count there
abbrev pub CountsAlone : Type 0
CountsAlone =
    (m : Monitor) (a : Active) (c : Command) (p : ℕ) →
    p ≡ count_place m.settings c →
    (p < 15 → c.latency < bound_at (with_active m a) p) →
    with_active m (with_counts a (one_more_at a.counts p)) ≡ after_completion (with_active m a) c

-- what `stamped` makes of a completion at place p, for counter n
abbrev pub Stamps : Monitor → Active → Command → (p n : ℕ) → Stamped → Type 0
Stamps m a c p n l =
    (p ≡ count_place m.settings c)
    × (n ≡ counter_at_place p)
    × (stamped_by m p c (stamp_at a n) ≡ Some l)

-- a completion that is said to load its stamp at the most does so
abbrev pub StampsAlone : Type 0
StampsAlone =
    (m : Monitor) (a : Active) (c : Command) (p n : ℕ) (l : Stamped) →
    Stamps m a c p n l →
    with_active m (stamped_in a p n l) ≡ after_completion (with_active m a) c

-- and the bounds follow
abbrev pub BoundsFollow : Type 0
BoundsFollow =
    (m : Monitor) (a : Active) (c : Command) (p n : ℕ) (l : Stamped) →
    Stamps m a c p n l →
    Bounds (with_active m a) a.bounds →
    length a.bounds ≡ 28 →
    length a.stamps ≡ 12 →
    length a.latencies ≡ 12 →
    Bounds (with_active m (stamped_in a p n l)) (set a.bounds p l.bound)

-- so what a completion is said to leave of an active window that is kept apart is what its own rule leaves
abbrev pub CompletesApart : Type 0
CompletesApart =
    (m : Monitor) (a next : Active) (c : Command) →
    Apart m a →
    completed_by m a (count_place m.settings c) c ≡ Some next →
    (with_active m next ≡ after_completion (with_active m a) c) × Apart m next

-- and a call that changes the clock and the timer alone does so beside it
abbrev pub TimeApart : Type 0
TimeApart =
    (m : Monitor) (a : Active) (c : Call) (t : Time) →
    Apart m a →
    time_by m c ≡ Some t →
    Alone (with_active m a) c t × Apart (with_time m t) a
