-- The pages after two histories are equal exactly when the histories agree.
use Prim.Native.Nat.{ℕ, ◌<◌}
use mathlib.Core.Path.{◌≡◌, sym, ap, ◌∙◌}
use mathlib.Core.Bool.{false}
use mathlib.Core.List.{List}
use lib.ListN.{get_or}
use Rattle.logpage.specs.Page.{page_bytes}
use Rattle.window.specs.Fields.{each}
use Rattle.logpage.proofs.Written.{page-apart}
use Rattle.history.specs.Claims.{SameCounter, Agree, PagesAgree}
use Rattle.history.specs.Facts.{active, static, Counted, count_of, last_load, stamp_of, latency_of, units_of}
use Rattle.history.specs.Facts.{window_from, facts_of}
use Rattle.history.specs.Effects.{Past, past_of}
use Rattle.history.proofs.Bounds.{facts-fit}
use Rattle.history.proofs.Given.{page-shows-facts}
use Rattle.history.proofs.Lists.{entry, from-same}

each_at : {A : Type 0} (d : A) (f g : ℕ → A) → each f ≡ each g → (n : ℕ) → n < 12 → f n ≡ g n
each_at d f g e n few = sym (entry 12 f d n few) ∙ ap (λ l. get_or l n d) e ∙ entry 12 g d n few

-- windows, by the completions counted for each counter
module _ (f g : ℕ → List Counted) where
  windows-same : ((n : ℕ) → n < 12 → SameCounter (f n) (g n)) → window_from f ≡ window_from g
  windows-same h =
      λ i. record {
        counters = from-same 0 12 (λ n. count_of (f n)) (λ n. count_of (g n)) (λ n l few. (h n few).count) i;
        stamps =
            from-same 0 12 (λ n. stamp_of (last_load (f n))) (λ n. stamp_of (last_load (g n))) (λ n l few. (h n few).stamp) i;
        latencies =
            from-same 0 12 (λ n. latency_of (last_load (f n))) (λ n. latency_of (last_load (g n)))
            (λ n l few. (h n few).latency) i;
        units =
            from-same 0 12 (λ n. units_of (last_load (f n))) (λ n. units_of (last_load (g n))) (λ n l few. (h n few).units) i;
      }

  counters-same : window_from f ≡ window_from g → (n : ℕ) → n < 12 → SameCounter (f n) (g n)
  counters-same e n few =
      record {
        count = each_at 0 (λ k. count_of (f k)) (λ k. count_of (g k)) (ap (λ w. w.counters) e) n few;
        stamp = each_at 0 (λ k. stamp_of (last_load (f k))) (λ k. stamp_of (last_load (g k))) (ap (λ w. w.stamps) e) n few;
        latency =
            each_at 0 (λ k. latency_of (last_load (f k))) (λ k. latency_of (last_load (g k))) (ap (λ w. w.latencies) e) n few;
        units =
            each_at false (λ k. units_of (last_load (f k))) (λ k. units_of (last_load (g k))) (ap (λ w. w.units) e) n few;
      }

module _ (a b : Past) where
  facts-same : Agree a b → facts_of a ≡ facts_of b
  unfolding facts_of
  facts-same h =
      λ i. record {
        settings = h.settings i;
        timer = h.timer i;
        active_window = windows-same (active a) (active b) h.active_windows i;
        static_window = windows-same (static a) (static b) h.static_windows i;
        debug = h.debug i;
      }

  facts-agree : facts_of a ≡ facts_of b → Agree a b
  unfolding facts_of
  facts-agree e =
      record {
        settings = ap (λ p. p.settings) e;
        timer = ap (λ p. p.timer) e;
        active_windows = counters-same (active a) (active b) (ap (λ p. p.active_window) e);
        static_windows = counters-same (static a) (static b) (ap (λ p. p.static_window) e);
        debug = ap (λ p. p.debug) e;
      }

pub pages-agree : PagesAgree
pages-agree h k b c = (
  λ e. facts-agree (past_of h) (past_of k) (page-apart _ _ (facts-fit h b) (facts-fit k c)
      (sym (page-shows-facts h) ∙ e ∙ page-shows-facts k)),
  λ a. page-shows-facts h ∙ ap page_bytes (facts-same (past_of h) (past_of k) a) ∙ sym (page-shows-facts k),
)
