-- Laws of a stretch: one record more, and where it is before record i.
use Rattle.std.specs.Simd.{first_chunks}
use Rattle.endian.proofs.Chunks.{chunk-at}
use Rattle.std.proofs.Common.{◌≡◌, ℕ, ◌+◌, ◌*◌, ◌/◌, ◌<◌, Bool, true, false, eqb, List, [], length, get_or, refl, arith, eqb-true}
use Rattle.std.specs.Prelude.{None, Some}
use borrow.Author.Tests.{eqb-false}
use Rattle.rules.specs.declared.commands.Command.{Command}
use Rattle.batch.specs.declared.parts.Time.{Time}
use Rattle.logpage.specs.declared.fields.Settings.{Settings}
use Rattle.monitor.specs.declared.record.Monitor.{Monitor}
use Rattle.batch.specs.declared.parts.Active.{Active}
use Rattle.monitor.specs.Calls.{Call, completion}
use Rattle.monitor.specs.Calls.{play_from}
use Rattle.batch.specs.Passing.{time_by, with_time}
use Rattle.batch.specs.Tally.{count_place, AtMost, completed_by, with_active}
use Rattle.batch.proofs.Alone.{time-apart}
use Rattle.batch.proofs.Counts.{completes-apart}
use Rattle.records.specs.Records.{call_of, record_refusal, after_record}
use Rattle.events.specs.Files.{record_at, whole_records, NoneRefused}
use Rattle.events.specs.Stretch.{Steady}
use Rattle.events.proofs.files.Laws.{Replayed, one_more}

-- a record that a stretch takes: what it leaves of the monitor and of the active window
pub record Taken (s : Settings) (m : Monitor) (a : Active) (m' : Monitor) (a' : Active) (r : List ℕ) : Type 0 where
  pub steady : Steady s m' a'
  pub accepted : record_refusal r ≡ None
  pub same : with_active m' a' ≡ after_record (with_active m a) r

module _ (s : Settings) (m : Monitor) (a : Active) (steady : Steady s m a) (r : List ℕ) where
  -- a completion, at its place
  pub completed :
      (c : Command) (next : Active) →
      call_of r ≡ Some (completion c) →
      completed_by m a (count_place s c) c ≡ Some next →
      Taken s m a m next r
  unfolding after_record record_refusal play_from
  completed c next call is =
      let rule = completes-apart m a next c steady.apart (rw steady.in_force at is) in
      record {
        steady = record { in_force = steady.in_force; apart = rule.1 };
        accepted = rw call;
        same = rw call rule.0;
      }

  -- the clock and the timer alone
  pub timed :
      (c : Call) (t : Time) → call_of r ≡ Some c → time_by m c ≡ Some t → Taken s m a (with_time m t) a r
  unfolding after_record record_refusal play_from
  timed c t call is =
      let rule = time-apart m a c t steady.apart is in
      record {
        steady = record { in_force = steady.in_force; apart = rule.1 };
        accepted = rw call rule.0.1;
        same = rw call rule.0.0;
      }

-- where a stretch from m is, before record i: none before it was refused, and the counts have room
pub record Stretched (m : Monitor) (s : List ℕ) (inside : Settings) (now : Monitor) (a : Active) (i : ℕ) : Type 0 where
  pub steady : Steady inside now a
  pub room : AtMost (4294967295 + i) a.counts
  pub accepted : NoneRefused s i
  pub played : Replayed m s (with_active now a) i

-- one record more that nothing turns away
accepted-more :
    (s : List ℕ) (i : ℕ) → NoneRefused s i → record_refusal (record_at s i) ≡ None → NoneRefused s (i + 1)
accepted-more s i before here j h = by (eqb j i) refl
  where
    by : (t : Bool) → eqb j i ≡ t → record_refusal (record_at s j) ≡ None
    by true e = let same : j ≡ i = eqb-true j i e in rw same here
    by false e = let other = eqb-false j i e in before j (by_cases other)
      where
        by_cases : (j ≡ i → ⊥) → j < i
        by_cases other = omega arith

pub taken :
    (m : Monitor) (s : List ℕ) (inside : Settings) (now next : Monitor) (a a' : Active) (i : ℕ) (r : List ℕ) →
    Stretched m s inside now a i →
    r ≡ record_at s i →
    i < whole_records s →
    Steady inside next a' →
    AtMost (4294967295 + i + 1) a'.counts →
    record_refusal r ≡ None →
    with_active next a' ≡ after_record (with_active now a) r →
    Stretched m s inside next a' (i + 1)
taken m s inside now next a a' i r at here more steady room accepted same =
    record {
      steady = steady;
      room = λ place. omega (arith, room place);
      accepted = accepted-more s i at.accepted (rw here at accepted);
      played = one_more m s _ _ i r at.played here same more;
    }

-- the chunks of a file are its records
pub chunk :
    (s : List ℕ) (i : ℕ) →
    i < whole_records s →
    get_or (first_chunks 16 (length s / 16) s) i [] ≡ record_at s i
chunk s i h =
    let place : i * 16 ≡ 16 * i = omega arith in
    rw place at (chunk-at s 16 (length s / 16) i h)
