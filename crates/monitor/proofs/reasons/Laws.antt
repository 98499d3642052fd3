-- Laws of the reasons: the lowest of a list; a completion without a counter, and with one; and what is claimed.
use mathlib.Core.Bool.{Bool, true, false, cond, not, true≢false, ◌&&◌, ◌||◌}
use mathlib.Core.List.{List, [], ◌∷◌}
use mathlib.Core.Logic.{◌↔◌}
use Rattle.std.specs.Prelude.{Option, None, Some}
use Rattle.std.specs.Option.{is_some}
use mathlib.Core.Path.{◌≡◌, refl, sym, ap, ◌∙◌}
use Prim.Native.Nat.{ℕ, zero, suc, ◌+◌, ◌-◌, ◌<◌, ◌≤◌}
use native.Mathlib.Omega.{arith}
use borrow.Author.Tests.{ltb-true, ltb-false}
use lib.Dec.{eqb, ltb}
use lib.ListN.{get_or}
use Rattle.window.specs.Fields.{unset}
use Rattle.logpage.specs.declared.fields.Settings.{Settings}
use Rattle.rules.specs.declared.commands.Command.{Command}
use Rattle.monitor.specs.declared.record.Monitor.{Monitor}
use Rattle.rules.specs.Answers.{loaded_in}
use Rattle.rules.specs.Commands.{kind_of, has_kind, bucket_of, counter_at, counter_of, reaches_a}
use Rattle.rules.specs.Commands.{is_below_a, milliseconds_of}
use Rattle.rules.specs.Counting.{bit, larger, waited, loads}
use Rattle.monitor.specs.Reasons.{lowest, applying, reason_of, stamp_reason_of, IsLowest, AnswersLowest}
use Rattle.monitor.specs.Reasons.{ZeroWhereLoaded}
use Rattle.monitor.specs.Record.{since_load, completion_answer}
use Rattle.rules.specs.Timer.{in_window}
use Rattle.rules.proofs.commands.Laws.{Becomes, slow, fast, kindless, disabled, becomes, at-no-kind, counter-enabled}

pub nothing-there : {A : Type 0} (x : A) → ◌≡◌ {A = Option A} None (Some x) → ⊥
nothing-there x e = true≢false (sym (ap is_some e))

-- r is the number of the first of a list that is true, counted from n on, or 0
data First (l : List Bool) (n r : ℕ) : Type 0 where
  none_true : r ≡ 0 → ((k : ℕ) → get_or l k false ≡ false) → First l n r
  first-true :
      (k : ℕ) →
      r ≡ n + k →
      get_or l k false ≡ true →
      ((j : ℕ) → j < k → get_or l j false ≡ false) →
      First l n r

one_more : (l : List Bool) (n r : ℕ) → First l (suc n) r → First (false ∷ l) n r
one_more l n r (none_true e f) = none_true e from
  where
    from : (k : ℕ) → get_or (false ∷ l) k false ≡ false
    from zero = refl
    from (suc k) = f k
one_more l n r (first-true k e is earlier) = first-true (suc k) (omega arith) is from
  where
    from : (j : ℕ) → j < suc k → get_or (false ∷ l) j false ≡ false
    from zero h = refl
    from (suc j) h = earlier j (omega arith)

first : (n : ℕ) (l : List Bool) → First l n (lowest n l)
unfolding lowest
first n [] = none_true refl (λ k. refl)
first n (true ∷ rest) = first-true 0 (omega arith) refl (λ j h. absurd (omega arith))
first n (false ∷ rest) = one_more rest n (lowest (suc n) rest) (first (suc n) rest)

is-lowest : (l : List Bool) (r : ℕ) → First l 1 r → IsLowest l r
is-lowest l r (none_true e f) =
    record { told = λ k e'. absurd (omega arith); least = λ k is. absurd (true≢false (sym is ∙ f k)) }
is-lowest l r (first-true k e is earlier) = record { told = told; least = least }
  where
    told : (j : ℕ) → r ≡ suc j → get_or l j false ≡ true
    told j e' =
        let same : j ≡ k = omega arith in
        rw same is

    least : (j : ℕ) → get_or l j false ≡ true → (1 ≤ r) × (r ≤ suc j)
    least j at = by (ltb j k) refl
      where
        by : (t : Bool) → ltb j k ≡ t → (1 ≤ r) × (r ≤ suc j)
        by true h = absurd (true≢false (sym at ∙ earlier j (ltb-true j k h)))
        by false h = (omega arith, omega (arith, ltb-false j k h))

pub answers-lowest : AnswersLowest
unfolding reason_of
answers-lowest m c = is-lowest (applying m c) _ (first 1 (applying m c))

-- reasons 1 to 3
module _ (m : Monitor) (c : Command) where
  pub reason-disabled : m.settings.enabled ≡ false → reason_of m c ≡ 1
  unfolding reason_of lowest
  reason-disabled off = rw off

  module _ (on : m.settings.enabled ≡ true) where
    pub reason-no-kind : has_kind c ≡ false → reason_of m c ≡ 2
    unfolding reason_of lowest
    reason-no-kind no_kind = rw (on, no_kind)

    pub reason-below-a : has_kind c ≡ true → is_below_a m.settings c ≡ true → reason_of m c ≡ 3
    unfolding reason_of lowest is_below_a
    reason-below-a kind below = by (reaches_a m.settings.thresholds c) refl (rw on at below)
      where
        by : (t : Bool) → reaches_a m.settings.thresholds c ≡ t → (not t && true) ≡ true → reason_of m c ≡ 3
        by true a e = absurd (true≢false (sym e))
        by false a e = rw (on, kind, a)

-- what a counter says of its completion
record Counts (s : Settings) (c : Command) (n : ℕ) : Type 0 where
  on : s.enabled ≡ true
  kind : has_kind c ≡ true
  slow-enough : reaches_a s.thresholds c ≡ true
  counter : counter_at (bucket_of s.thresholds c) (kind_of c) ≡ Some n

has-kind : (bucket : Option ℕ) (c : Command) (n : ℕ) → counter_at bucket (kind_of c) ≡ Some n → has_kind c ≡ true
has-kind bucket c n e = by (kind_of c) refl
  where
    by : (kind : Option ℕ) → kind_of c ≡ kind → has_kind c ≡ true
    by (Some k) is = rw is
    by None is = absurd (nothing-there n (sym (at-no-kind bucket) ∙ (rw is at e)))

counts : (s : Settings) (c : Command) (n : ℕ) → counter_of s c ≡ Some n → Counts s c n
unfolding counter_of
counts s c n e = by (reaches_a s.thresholds c) refl
  where
    on : s.enabled ≡ true
    on = counter-enabled s c n e

    by : (t : Bool) → reaches_a s.thresholds c ≡ t → Counts s c n
    by true a =
        let counter = rw (on, a) at e in
        record { on = on; kind = has-kind (bucket_of s.thresholds c) c n counter; slow-enough = a; counter = counter }
    by false a = absurd (nothing-there n (rw (on, a) at e))

-- reasons 4 to 6, of a completion that has a counter
pub reason-of-counter :
    (m : Monitor) (c : Command) (n ms : ℕ) →
    counter_of m.settings c ≡ Some n →
    ms ≡ milliseconds_of c →
    reason_of m c ≡ stamp_reason_of m ms n
unfolding reason_of stamp_reason_of lowest
reason-of-counter m c n ms e measured =
    let counted = counts m.settings c n e in
    rw (counted.on, counted.kind, counted.slow-enough, counted.counter, measured)

-- an enabled completion of a kind that has no counter is below threshold A
pub below-without-counter :
    (m : Monitor) (c : Command) →
    m.settings.enabled ≡ true →
    has_kind c ≡ true →
    counter_of m.settings c ≡ None →
    is_below_a m.settings c ≡ true
below-without-counter m c on has nowhere = by (becomes m.settings c)
  where
    by : Becomes m.settings c → is_below_a m.settings c ≡ true
    by (slow k b few low on' kind reached e) = absurd (nothing-there _ (sym nowhere ∙ e))
    by (fast k few on' kind below e e') = below
    by (kindless kind e e') = absurd (true≢false (sym has ∙ (rw kind)))
    by (disabled off e e') = absurd (true≢false (sym on ∙ off))

-- the lowest of 4 to 6, by what decides: the stamp is unset, the mode is largest, the latency larger, and the minimum
-- window over
abbrev stamp_reason : (is_unset largest is_larger is_over : Bool) → ℕ
stamp_reason is_unset largest is_larger is_over = cond is_unset 0 (cond largest (cond is_larger (cond is_over 0 6) 5) 4)

decided :
    (u l g w : Bool) →
    stamp_reason u l g w ≡ lowest 4 ((not u && not l) ∷ ((not u && l) && not g) ∷ ((not u && l) && not w) ∷ [])
unfolding lowest
decided true l g w = refl
decided false false g w = refl
decided false true false w = refl
decided false true true false = refl
decided false true true true = refl

pub stamp-reason :
    (m : Monitor) (ms n time : ℕ) (u l g w : Bool) →
    time ≡ in_window m.timer m.partial →
    eqb (get_or m.active_window.stamps n 0) unset ≡ u →
    bit m.settings.mode n ≡ l →
    larger (get_or m.active_window.latencies n 0) ms ≡ g →
    waited (time - get_or m.loaded n 0) m.settings.minimum_window ≡ w →
    stamp_reason u l g w ≡ stamp_reason_of m ms n
unfolding stamp_reason_of
stamp-reason m ms n time u l g w now is-unset mode is-larger is-over =
    rw (is-unset, mode, is-larger, ← now, is-over) (decided u l g w)

-- it is 0 where the stamp is loaded
zero-where : (u l g w : Bool) → (stamp_reason u l g w ≡ 0) ↔ ((u || (l && (g && w))) ≡ true)
zero-where true l g w = ((λ e. refl), (λ e. refl))
zero-where false false g w = ((λ e. absurd (omega arith)), (λ e. absurd (true≢false (sym e))))
zero-where false true false w = ((λ e. absurd (omega arith)), (λ e. absurd (true≢false (sym e))))
zero-where false true true false = ((λ e. absurd (omega arith)), (λ e. absurd (true≢false (sym e))))
zero-where false true true true = ((λ e. refl), (λ e. refl))

-- without a counter no stamp is loaded, and there is a reason
no_zero : (m : Monitor) (c : Command) → counter_of m.settings c ≡ None → reason_of m c ≡ 0 → ⊥
no_zero m c none_is zero_is = by (becomes m.settings c)
  where
    by : Becomes m.settings c → ⊥
    by (slow k b few low on kind reached e) = nothing-there _ (sym none_is ∙ e)
    by (fast k few on kind below e e') = omega (arith, zero_is, reason-below-a m c on (rw kind) below)
    by (disabled off e e') = omega (arith, zero_is, reason-disabled m c off)
    by (kindless kind e e') = either m.settings.enabled refl
      where
        either : (t : Bool) → m.settings.enabled ≡ t → ⊥
        either true on = omega (arith, zero_is, reason-no-kind m c on (rw kind))
        either false off = omega (arith, zero_is, reason-disabled m c off)

pub zero-where-loaded : ZeroWhereLoaded
unfolding completion_answer loads
zero-where-loaded m c = by (counter_of m.settings c) refl
  where
    by :
        (o : Option ℕ) →
        counter_of m.settings c ≡ o →
        (reason_of m c ≡ 0) ↔ (loaded_in (completion_answer m c) ≡ true)
    by None e = ((λ z. absurd (no_zero m c e z)), (λ l. absurd (true≢false (sym (rw e at l)))))
    by (Some n) e =
        rw (reason-of-counter m c n _ e refl, ← stamp-reason m (milliseconds_of c) n _ _ _ _ _ refl refl refl refl refl, e)
        (zero-where (eqb (get_or m.active_window.stamps n 0) unset) (bit m.settings.mode n)
        (larger (get_or m.active_window.latencies n 0) (milliseconds_of c))
        (waited (since_load m n) m.settings.minimum_window))
