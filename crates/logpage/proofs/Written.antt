-- What is written is read back.
use mathlib.Core.Bool.{Bool, true}
use mathlib.Core.List.{List, [], ◌∷◌}
use Rattle.std.specs.Prelude.{None as no-refusal}
use mathlib.Core.Path.{◌≡◌, refl, sym, ap, ◌∙◌}
use Prim.Native.Nat.{ℕ, ◌<◌}
use native.Mathlib.Omega.{arith}
use borrow.Author.Tests.{lt-ltb}
use lib.Dec.{lit<}
use lib.ListN.{length, get_or}
use Rattle.endian.specs.Bytes.{any_set}
use Rattle.endian.specs.Loads.{part, values_at}
use Rattle.endian.specs.Stores.{low_first, fields}
use Rattle.endian.proofs.Layouts.{Fit, none, ◌▸◌, narrow, values-back}
use Rattle.window.specs.Block.{flag, buckets, downward, block_bytes}
use Rattle.window.specs.BlockReader.{window_in, of_twelve, clear, window_fits}
use Rattle.logpage.specs.Claims.{ReadAsWritten}
use Rattle.logpage.specs.Fields.{Fits}
use Rattle.window.specs.Fields.{from}
use Rattle.logpage.specs.Page.{head_widths, head_values, head_bytes, windows_bytes, tail_widths, tail_values, tail_bytes}
use Rattle.logpage.specs.Page.{identity_widths, identity_values, page_bytes}
use Rattle.logpage.specs.Reader.{head_in, tail_in, debug_from, fields_in, head_fits, tail_fits, debug_fits, page_keeps}
use Rattle.logpage.specs.Reader.{page_fits, identified, read_refusal, reading_of, fields_fit}
use Rattle.logpage.specs.declared.page.LogPage.{LogPage}
use Rattle.window.proofs.Lists.{entries, passed, flag-back}
use Rattle.logpage.proofs.Lengths.{length-page}
use Rattle.window.proofs.block.Laws.{flag-below}
use Rattle.window.proofs.Written.{window-back, block-kept}

four-entries : (l : List ℕ) → length l ≡ 4 → get_or l 0 0 ∷ get_or l 1 0 ∷ get_or l 2 0 ∷ get_or l 3 0 ∷ [] ≡ l
unfolding from
four-entries l h = rw h at (entries 0 l)

-- the parts of a page
module _ (p : LogPage) where
  abbrev page : List ℕ
  page = page_bytes p

  head-part : part 0 13 page ≡ fields head_widths (head_values p.settings p.timer)
  unfolding page_bytes head_bytes fields low_first
  head-part = refl

  pub active-part : part 32 186 page ≡ block_bytes p.active_window
  unfolding page_bytes head_bytes windows_bytes block_bytes buckets downward fields low_first
  active-part = refl

  pub static-part : part 240 186 page ≡ block_bytes p.static_window
  unfolding page_bytes head_bytes windows_bytes block_bytes buckets downward fields low_first
  static-part = refl

  tail-part : part 448 17 page ≡ fields tail_widths (tail_values p.settings.trigger p.debug)
  unfolding page_bytes head_bytes windows_bytes tail_bytes block_bytes buckets downward fields low_first
  tail-part = refl

  pub identity-part : part 494 18 page ≡ fields identity_widths identity_values
  unfolding page_bytes head_bytes windows_bytes tail_bytes block_bytes buckets downward fields low_first
  identity-part = refl

  -- the bytes that belong to no field
  pub clear-parts :
      (clear 13 19 page ≡ true) × (clear 218 22 page ≡ true) × (clear 426 22 page ≡ true) × (clear 465 29 page ≡ true)
  unfolding page_bytes head_bytes windows_bytes tail_bytes block_bytes buckets downward fields low_first any_set
  clear-parts = (refl, refl, refl, refl)

  module _ (x : Fits p) where
    flag-fits : (b : Bool) → flag b < 256
    flag-fits b = omega (arith, flag-below b)

    head-fit : Fit head_widths (head_values p.settings p.timer)
    head-fit =
        let s = x.settings in
        let t = s.thresholds in
        flag-fits p.settings.enabled ▸ lit< tt ▸ x.timer ▸ s.threshold ▸ t 0 ▸ t 1 ▸ t 2 ▸ t 3 ▸ s.mode ▸
        s.minimum ▸ none

    tail-fit : Fit tail_widths (tail_values p.settings.trigger p.debug)
    tail-fit =
        let d = x.debug in
        x.settings.trigger ▸ d.latency ▸ d.stamp ▸ lit< tt ▸ d.source ▸ flag-fits p.debug.units ▸ none

    pub head-back : head_in page ≡ head_values p.settings p.timer
    unfolding narrow
    head-back = ap (values_at 0 head_widths) head-part ∙ values-back head-fit refl

    pub tail-back : tail_in page ≡ tail_values p.settings.trigger p.debug
    unfolding narrow
    tail-back = ap (values_at 0 tail_widths) tail-part ∙ values-back tail-fit refl

    -- all fields
    pub fields_back : fields_in page ≡ p
    unfolding fields_in
    fields_back =
        let e = flag-back p.settings.enabled in
        let t = four-entries p.settings.thresholds x.settings.four in
        let a = ap window_in active-part ∙ window-back p.active_window x.active in
        let s = ap window_in static-part ∙ window-back p.static_window x.static in
        let u = flag-back p.debug.units in
        rw (head-back, tail-back)
        (λ i. record {
          settings =
              record {
                timer_threshold = p.settings.timer_threshold;
                mode = p.settings.mode;
                trigger = p.settings.trigger;
                thresholds = t i;
                minimum_window = p.settings.minimum_window;
                enabled = e i;
              };
          timer = p.timer;
          active_window = a i;
          static_window = s i;
          debug =
              record {
                stamp = p.debug.stamp;
                latency = p.debug.latency;
                source = p.debug.source;
                units = u i;
              };
        })

-- equal bytes, equal fields
pub page-apart : (p q : LogPage) → Fits p → Fits q → page_bytes p ≡ page_bytes q → p ≡ q
page-apart p q x y e = sym (fields_back p x) ∙ ap fields_in e ∙ fields_back q y

-- the rules of the layout, of fields that keep theirs
module _ (p : LogPage) (x : Fits p) (fit : fields_fit p ≡ true) where
  abbrev rules : List Bool
  rules =
      of_twelve p.settings.mode
      ∷ of_twelve p.settings.trigger
      ∷ window_fits p.active_window
      ∷ window_fits p.static_window
      ∷ debug_fits p.debug
      ∷ []

  kept : (k : ℕ) → get_or rules k true ≡ true
  unfolding fields_fit
  kept = passed rules fit

  head-kept : head_fits (head_in (page_bytes p)) ≡ true
  head-kept = rw (head-back p x, lt-ltb _ _ (flag-below p.settings.enabled), kept 0)

  debug-same : debug_from (tail_in (page_bytes p)) ≡ p.debug
  unfolding fields_in
  debug-same = ap (λ q. q.debug) (fields_back p x)

  tail-kept : tail_fits (tail_in (page_bytes p)) ≡ true
  tail-kept = rw (debug-same, tail-back p x, kept 1, lt-ltb _ _ (flag-below p.debug.units), kept 4)

  page-kept : page_fits (page_bytes p) ≡ true
  unfolding page_keeps
  page-kept =
      let c = clear-parts p in
      rw (
        active-part p,
        block-kept p.active_window x.active (kept 2),
        static-part p,
        block-kept p.static_window x.static (kept 3),
        head-kept,
        tail-kept,
        c.0,
        c.1,
        c.2,
        c.3,
      )

  identity-kept : identified (page_bytes p) ≡ true
  unfolding identified narrow
  identity-kept = rw (identity-part p, values-back identity-fit refl)
    where
      identity-fit : Fit identity_widths identity_values
      identity-fit = lit< tt ▸ lit< tt ▸ lit< tt ▸ none

  accepted : read_refusal (page_bytes p) ≡ no-refusal
  unfolding read_refusal
  accepted = rw (length-page p, identity-kept, page-kept)

pub read-as-written : ReadAsWritten
unfolding reading_of
read-as-written p x fit = (accepted p x fit, rw (accepted p x fit, fields_back p x))
