-- Laws of the search for a bucket, and of the counter that it leads to.
use mathlib.Core.Path.{◌≡◌, refl, sym, ◌∙◌}
use mathlib.Core.Bool.{Bool, true, false, cond, true≢false, ◌&&◌, ◌||◌, and-false}
use mathlib.Core.List.{List}
use Rattle.std.specs.Prelude.{Option, None, Some}
use Prim.Native.Nat.{ℕ, zero, suc, ◌+◌, ◌*◌, ◌-◌, ◌≤◌, ◌<◌}
use native.Mathlib.Nat.{not-suc-le-zero}
use native.Mathlib.Numerals.{sub-one}
use native.Mathlib.Omega.{arith}
use lib.Dec.{eqb}
use lib.ListN.{get_or}
use Rattle.logpage.specs.declared.fields.Settings.{Settings}
use Rattle.rules.specs.declared.commands.Command.{Command}
use Rattle.rules.specs.Commands.{highest, highest_reached, highest_below, reaches, reaches_a, bucket_of, milliseconds_of, latency_above}
use Rattle.rules.specs.Commands.{kind_of, counter_at, counter_of, is_below_a, below_a_of}

-- one step of the search down
module _ (reached : List Bool) where
  down :
      (n : ℕ) →
      0 < n →
      highest_reached reached n ≡
      cond (get_or reached (n - 1) false) (Some (n - 1)) (highest_reached reached (n - 1))
  unfolding highest
  down zero h = absurd (not-suc-le-zero h)
  down (suc n) h = rw (sub-one (suc n))

  pub hit :
      (n : ℕ) →
      0 < n →
      get_or reached (n - 1) false ≡ true →
      highest_reached reached n ≡ Some (n - 1)
  hit n p t = rw (down n p, t)

  pub miss :
      (n : ℕ) →
      0 < n →
      get_or reached (n - 1) false ≡ false →
      highest_reached reached n ≡ highest_reached reached (n - 1)
  miss n p t = rw (down n p, t)

pub nothing : (reached : List Bool) → highest_reached reached 0 ≡ None
unfolding highest
nothing reached = refl

-- a number that is found is below a limit
data Below (n : ℕ) : Option ℕ → Type 0 where
  absent : Below n None
  present : {x : ℕ} → x < n → Below n (Some x)

either : {n : ℕ} (t : Bool) {x y : Option ℕ} → Below n x → Below n y → Below n (cond t x y)
either true p q = p
either false p q = q

more : {n : ℕ} {x : Option ℕ} → Below n x → Below (suc n) x
more absent = absent
more (present {x = x} h) = present {x = x} (omega arith)

bucket-below : (thresholds : List ℕ) (us n : ℕ) → Below n (highest_below thresholds us n)
unfolding highest
bucket-below thresholds us zero = absent
bucket-below thresholds us (suc n) =
    either (reaches us (get_or thresholds n 0)) (present (omega arith)) (more (bucket-below thresholds us n))

kind-below : (c : Command) → Below 3 (kind_of c)
unfolding kind_of
kind-below c =
    either (eqb c.opcode 2) (present {x = 0} (omega arith))
    (either (eqb c.opcode 1) (present {x = 1} (omega arith))
    (either ((eqb c.opcode 9 || eqb c.opcode 8) && c.deallocate) (present {x = 2} (omega arith)) absent))

without-below : (c : Command) → c.deallocate ≡ false → Below 2 (kind_of c)
unfolding kind_of
without-below c without =
    rw (without, and-false (eqb c.opcode 9 || eqb c.opcode 8))
    (either (eqb c.opcode 2) (present {x = 0} (omega arith))
    (either (eqb c.opcode 1) (present {x = 1} (omega arith)) absent))

at-below : {b k : Option ℕ} → Below 4 b → Below 3 k → Below 12 (counter_at b k)
at-below absent q = absent
at-below (present p) absent = absent
at-below (present {x = b} p) (present {x = k} q) = present {x = 3 * b + k} (omega arith)

inside : {n x : ℕ} → Below n (Some x) → x < n
inside (present h) = h

-- there are four buckets
pub bucket-few : (thresholds : List ℕ) (c : Command) (b : ℕ) → bucket_of thresholds c ≡ Some b → b < 4
unfolding bucket_of
bucket-few thresholds c b e = inside (rw e at (bucket-below thresholds c.latency 4))

-- there are twelve counters
pub counter-below : (s : Settings) (c : Command) (n : ℕ) → counter_of s c ≡ Some n → n < 12
unfolding counter_of bucket_of
counter-below s c n e =
    let at-a-bucket = at-below (bucket-below s.thresholds c.latency 4) (kind-below c) in
    inside (rw e at (either s.enabled (either (reaches_a s.thresholds c) at-a-bucket absent) absent))

-- there are three kinds
pub kind-few : (c : Command) (k : ℕ) → kind_of c ≡ Some k → k < 3
kind-few c k e = inside (rw e at (kind-below c))

-- without the deallocate attribute or bit there are two
pub kind-without : (c : Command) (k : ℕ) → c.deallocate ≡ false → kind_of c ≡ Some k → k < 2
kind-without c k without e = inside (rw e at (without-below c without))

-- a disabled monitor counts nothing
pub counter-enabled : (s : Settings) (c : Command) (n : ℕ) → counter_of s c ≡ Some n → s.enabled ≡ true
unfolding counter_of
counter-enabled s c n e = by s.enabled refl
  where
    by : (t : Bool) → s.enabled ≡ t → t ≡ true
    by true h = refl
    by false h =
        let nowhere : ◌≡◌ {A = Option ℕ} None (Some n) = rw (h, counter_of) at e in
        let never : ◌≡◌ {A = ℕ} 0 1 = cc in absurd (omega arith)

-- a latency that reaches threshold A has a bucket
data Found (n : ℕ) : Option ℕ → Type 0 where
  found_at : (b : ℕ) → b < n → Found n (Some b)

has-bucket :
    (thresholds : List ℕ) (us : ℕ) →
    reaches us (get_or thresholds 0 0) ≡ true →
    (n : ℕ) →
    Found (suc n) (highest_below thresholds us (suc n))
unfolding highest
has-bucket thresholds us a zero = rw a (found_at 0 (omega arith))
has-bucket thresholds us a (suc n) = by (reaches us (get_or thresholds (suc n) 0)) (has-bucket thresholds us a n)
  where
    by :
        (t : Bool) →
        Found (suc n) (highest_below thresholds us (suc n)) →
        Found (suc (suc n)) (cond t (Some (suc n)) (highest_below thresholds us (suc n)))
    by true f = found_at (suc n) (omega arith)
    by false f = more_of f
      where
        more_of : {o : Option ℕ} → Found (suc n) o → Found (suc (suc n)) o
        more_of (found_at b h) = found_at b (omega arith)

-- no counter without a kind
pub at-no-kind : (o : Option ℕ) → counter_at o None ≡ None
at-no-kind None = refl
at-no-kind (Some b) = refl

-- the counter of a latency that reaches threshold A, by its bucket and kind
pub slow-counter :
    (s : Settings) (c : Command) →
    s.enabled ≡ true →
    reaches_a s.thresholds c ≡ true →
    counter_of s c ≡ counter_at (bucket_of s.thresholds c) (kind_of c)
unfolding counter_of
slow-counter s c on a = rw (on, a)

-- what becomes of a completion: it has a counter, it is below threshold A, or it is of no kind or comes while disabled
pub data Becomes (s : Settings) (c : Command) : Type 0 where
  slow :
      (k b : ℕ) →
      k < 3 →
      b < 4 →
      s.enabled ≡ true →
      kind_of c ≡ Some k →
      is_below_a s c ≡ false →
      counter_of s c ≡ Some (3 * b + k) →
      Becomes s c
  fast :
      (k : ℕ) →
      k < 3 →
      s.enabled ≡ true →
      kind_of c ≡ Some k →
      is_below_a s c ≡ true →
      counter_of s c ≡ None →
      below_a_of s c ≡ Some k →
      Becomes s c
  kindless : kind_of c ≡ None → counter_of s c ≡ None → below_a_of s c ≡ None → Becomes s c
  disabled : s.enabled ≡ false → counter_of s c ≡ None → below_a_of s c ≡ None → Becomes s c

pub becomes : (s : Settings) (c : Command) → Becomes s c
unfolding is_below_a counter_of below_a_of bucket_of
becomes s c = by s.enabled refl (reaches_a s.thresholds c) refl (kind_of c) refl
  where
    by :
        (on : Bool) →
        s.enabled ≡ on →
        (slow-enough : Bool) →
        reaches_a s.thresholds c ≡ slow-enough →
        (kind : Option ℕ) →
        kind_of c ≡ kind →
        Becomes s c
    by false off true a kind k = disabled off (rw off) (rw a)
    by false off false a kind k = disabled off (rw off) (rw (a, off))
    by true on false a None k = kindless k (rw (on, a)) (rw (on, a) k)
    by true on true a None k =
        kindless k (rw (on, a, k) (at-no-kind (highest_below s.thresholds c.latency 4))) (rw (on, a))
    by true on false a (Some kind) k =
        fast kind (kind-few c kind k) on k (rw (on, a)) (rw (on, a)) (rw (on, a) k)
    by true on true a (Some kind) k =
        bucketed (highest_below s.thresholds c.latency 4) refl (has-bucket s.thresholds c.latency a 3)
      where
        bucketed : (o : Option ℕ) → highest_below s.thresholds c.latency 4 ≡ o → Found 4 o → Becomes s c
        bucketed o e (found_at b few) = slow kind b (kind-few c kind k) few on k (rw (on, a)) (rw (on, a, e, k))

-- a completion below threshold A has no counter
pub fast-uncounted : (s : Settings) (c : Command) → is_below_a s c ≡ true → counter_of s c ≡ None
fast-uncounted s c below = by (becomes s c)
  where
    by : Becomes s c → counter_of s c ≡ None
    by (slow k b few low on kind reached e) = absurd (true≢false (sym below ∙ reached))
    by (fast k few on kind is e e') = e
    by (kindless kind e e') = e
    by (disabled off e e') = e

pub below-a-kind :
    (s : Settings) (c : Command) (below : Bool) →
    is_below_a s c ≡ below →
    below_a_of s c ≡ cond below (kind_of c) None
unfolding below_a_of
below-a-kind s c below e = rw e

pub below-a-kindless : (s : Settings) (c : Command) → kind_of c ≡ None → below_a_of s c ≡ None
unfolding below_a_of
below-a-kindless s c e = by (is_below_a s c)
  where
    by : (below : Bool) → cond below (kind_of c) None ≡ None
    by true = e
    by false = refl

-- below the latency of more ms than these there are at most as many
pub below-latency-above : (c : Command) (ms : ℕ) → c.latency < latency_above ms → milliseconds_of c ≤ ms
unfolding latency_above milliseconds_of
below-latency-above c ms below = omega arith
