-- Calls that change the clock and the timer alone.
use mathlib.Core.Bool.{Bool, true, false}
use Rattle.std.specs.Prelude.{Option, None, Some}
use mathlib.Core.Path.{◌≡◌, refl, sym, ◌∙◌}
use Prim.Native.Nat.{ℕ}
use Rattle.batch.specs.declared.parts.Active.{Active}
use Rattle.batch.specs.declared.parts.Time.{Time}
use Rattle.monitor.specs.declared.record.Monitor.{Monitor}
use Rattle.monitor.specs.Calls.{Call, settings, completion, elapsed, clock, power_up, page, settings_back, below_a}
use Rattle.std.proofs.lemmas.Option.{none-some}
use Rattle.batch.specs.Claims.{Alone, TimeAlone, TimeApart}
use Rattle.batch.specs.Tally.{bound_for, bound_at, with_active}
use Rattle.batch.specs.Passing.{passed_by, clocked_by, time_by}
use Rattle.monitor.specs.Record.{after_elapsed, after_clock, after_power_up, ticked_by}
use Rattle.rules.specs.Refusals.{elapsed_refusal, clock_refusal}

module _ (m : Monitor) (t : Time) where
  elapsed-alone : (ms : ℕ) → passed_by m ms ≡ Some t → Alone m (elapsed ms) t
  unfolding passed_by after_elapsed
  elapsed-alone ms e = by (elapsed_refusal ms) refl ((ticked_by m ms).expired) refl
    where
      by :
          (o : Option ℕ) →
          elapsed_refusal ms ≡ o →
          (ended : Bool) →
          (ticked_by m ms).expired ≡ ended →
          Alone m (elapsed ms) t
      by (Some n) refused ended is = absurd (none-some t (rw refused at e))
      by None accepted true is = absurd (none-some t (rw (accepted, is) at e))
      by None accepted false is = (rw accepted (cc), accepted)

  clock-alone : (value : ℕ) → clocked_by m value ≡ Some t → Alone m (clock value) t
  unfolding clocked_by after_clock
  clock-alone value e = by (clock_refusal value) refl
    where
      by : (o : Option ℕ) → clock_refusal value ≡ o → Alone m (clock value) t
      by (Some n) refused = absurd (none-some t (rw refused at e))
      by None accepted = (cc, accepted)

  alone : (c : Call) → time_by m c ≡ Some t → Alone m c t
  unfolding after_power_up
  alone (settings s) e = absurd (none-some t e)
  alone (completion c) e = absurd (none-some t e)
  alone (elapsed ms) e = elapsed-alone ms e
  alone (clock value) e = clock-alone value e
  alone power_up e = (cc, refl)
  alone (page n) e = absurd (none-some t e)
  alone (settings_back n) e = absurd (none-some t e)
  alone (below_a w) e = absurd (none-some t e)

pub time-alone : TimeAlone
time-alone m c t e = alone m t c e

-- time takes nothing from the active window
same-time : (m : Monitor) (a : Active) (c : Call) → time_by m c ≡ time_by (with_active m a) c
unfolding passed_by clocked_by
same-time m a (settings s) = refl
same-time m a (completion c) = refl
same-time m a (elapsed ms) = refl
same-time m a (clock value) = refl
same-time m a power_up = refl
same-time m a (page n) = refl
same-time m a (settings_back n) = refl
same-time m a (below_a w) = refl

pub time-apart : TimeApart
unfolding bound_at bound_for
time-apart m a c t apart e = (
  time-alone (with_active m a) c t (sym (same-time m a c) ∙ e),
  record { bounds = apart.bounds; places = apart.places; stamps = apart.stamps; latencies = apart.latencies },
)
