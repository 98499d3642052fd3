-- 02, Ticket 1: a page read back, and the rules by which it is turned away.
use Rattle.std.specs.Prelude.{Bool, false, not, cond, List, [], ◌∷◌, ℕ, ◌<◌, ◌^◌, eqb, ltb, length, get_or}
use Rattle.std.specs.Prelude.{Option, None, Some, Result, Ok, Err}
use Rattle.refusals.specs.declared.Refusal.{Refusal}
use Rattle.std.specs.Int.Count.{ones, count_trailing_zeros}
use Rattle.endian.specs.Loads.{part, values_at}
use Rattle.logpage.specs.Answers.{row}
use Rattle.window.specs.Tests.{all}
use Rattle.window.specs.BlockReader.{window_in, of_twelve, clear, window_fits, block_keeps}
use Rattle.logpage.specs.Fields.{no_settings, no_debug_log}
use Rattle.window.specs.Fields.{unset, empty_window}
use Rattle.logpage.specs.Page.{head_widths, tail_widths, identity_widths, identity_values}
use Rattle.logpage.specs.declared.fields.DebugLog.{DebugLog}
use Rattle.logpage.specs.declared.fields.Settings.{Settings}
use Rattle.window.specs.declared.fields.Window.{Window}
use Rattle.logpage.specs.declared.page.LogPage.{LogPage}
use Rattle.logpage.specs.declared.reader.Reading.{Reading}

-- the values of the page's fields: bytes 0 to 12, 448 to 464, and 494 to 511
abbrev pub head_in : List ℕ → List ℕ
head_in page = values_at 0 head_widths (part 0 13 page)

abbrev pub tail_in : List ℕ → List ℕ
tail_in page = values_at 0 tail_widths (part 448 17 page)

abbrev pub identity_in : List ℕ → List ℕ
identity_in page = values_at 0 identity_widths (part 494 18 page)

-- no value has more bytes than its field
abbrev pub Bounded : (widths values : List ℕ) → Type 0
Bounded widths values = (k : ℕ) → get_or values k 0 < 256 ^ get_or widths k 0

-- the settings in force; the page has no discard byte, which is an order and no setting
abbrev pub settings_from : (head tail : List ℕ) → Settings
settings_from head tail =
    record {
      timer_threshold = get_or head 3 0;
      mode = get_or head 8 0;
      trigger = get_or tail 0 0;
      thresholds = get_or head 4 0 ∷ get_or head 5 0 ∷ get_or head 6 0 ∷ get_or head 7 0 ∷ [];
      minimum_window = get_or head 9 0;
      enabled = eqb (get_or head 0 0) 1;
    }

-- the debug log (document 01: debug record)
abbrev pub debug_from : (tail : List ℕ) → DebugLog
debug_from tail =
    record { stamp = get_or tail 2 0; latency = get_or tail 1 0; source = get_or tail 4 0; units = eqb (get_or tail 5 0) 1 }

-- what the page shows
unfoldable pub fields_in : List ℕ → LogPage
fields_in page =
    record {
      settings = settings_from (head_in page) (tail_in page);
      timer = get_or (head_in page) 2 0;
      active_window = window_in (part 32 186 page);
      static_window = window_in (part 240 186 page);
      debug = debug_from (tail_in page);
    }

-- a debug log is held if its stamp is set; the trailing zeros of its source are its counter's number
unfoldable pub holds_debug : DebugLog → Bool
holds_debug d = not (eqb d.stamp unset)

unfoldable pub debug_counter_of : DebugLog → ℕ
debug_counter_of d = cond (eqb d.stamp unset) 0 (count_trailing_zeros 16 d.source)

unfoldable pub shown : LogPage → Reading
shown p = record { page = p; debug_held = holds_debug p.debug; debug_counter = debug_counter_of p.debug }

-- what a new monitor's page shows
unfoldable pub no_reading : Reading
no_reading =
    record {
      page =
          record {
            settings = no_settings;
            timer = 0;
            active_window = empty_window;
            static_window = empty_window;
            debug = no_debug_log;
          };
      debug_held = false;
      debug_counter = 0;
    }

-- a held debug log has a stamp below 2^48 and one source bit, of the twelve counters; a missing one has zeros
unfoldable pub debug_fits : DebugLog → Bool
debug_fits d =
    cond (eqb d.stamp unset) (all (eqb d.latency 0 ∷ eqb d.source 0 ∷ not d.units ∷ []))
    (all (ltb d.stamp 281474976710656 ∷ eqb (ones d.source) 1 ∷ of_twelve d.source ∷ []))

-- the rules of bytes 0 to 12; bytes 2 to 9, and 12, may hold anything
abbrev pub head_fits : List ℕ → Bool
head_fits head =
    all
    (ltb (get_or head 0 0) 2  -- 0: bits 1 to 7 are zero
    ∷ eqb (get_or head 1 0) 0  -- 1
    ∷ of_twelve (get_or head 8 0)  -- 10-11: mode
    ∷ [])

-- the rules of bytes 448 to 464
abbrev pub tail_fits : List ℕ → Bool
tail_fits tail =
    all
    (of_twelve (get_or tail 0 0)  -- 448-449: debug log trigger
    ∷ eqb (get_or tail 3 0) 0  -- 460-461: debug log pointer
    ∷ ltb (get_or tail 5 0) 2  -- 464: stamp units of the debug log
    ∷ debug_fits (debug_from tail)
    ∷ [])

-- the rules of the layout, for a page with these values and windows
unfoldable pub page_keeps : List ℕ → (head tail : List ℕ) → (active static : Window) → Bool
page_keeps page head tail active static =
    all
    (block_keeps (part 32 186 page) active
    ∷ block_keeps (part 240 186 page) static
    ∷ head_fits head
    ∷ tail_fits tail
    ∷ clear 13 19 page  -- the bytes of no field
    ∷ clear 218 22 page
    ∷ clear 426 22 page
    ∷ clear 465 29 page
    ∷ [])

abbrev pub page_fits : List ℕ → Bool
page_fits page =
    page_keeps page (head_in page) (tail_in page) (window_in (part 32 186 page)) (window_in (part 240 186 page))

-- version and GUID are the page's
unfoldable pub identified : List ℕ → Bool
identified page =
    let same : ℕ → Bool = λ k. eqb (get_or (identity_in page) k 0) (get_or identity_values k 0) in
    all (same 0 ∷ same 1 ∷ same 2 ∷ [])

-- where a page is turned away: rows 13 to 15, the earliest first
abbrev pub layout_refusal : List ℕ → Option ℕ
layout_refusal page = row 15 (not (page_fits page)) None

unfoldable pub read_refusal : List ℕ → Option ℕ
read_refusal page = row 13 (not (eqb (length page) 512)) (row 14 (not (identified page)) (layout_refusal page))

-- what is handed back; where a page is turned away, that stands for what a new monitor's page shows
abbrev pub reading_in : Result Reading Refusal → Reading
reading_in (Ok reading) = reading
reading_in (Err refusal) = no_reading

-- what the page shows, or what a new monitor's page shows
abbrev pub reading_after : Option ℕ → List ℕ → Reading
reading_after None page = shown (fields_in page)
reading_after (Some n) page = no_reading

unfoldable pub reading_of : List ℕ → Reading
reading_of page = reading_after (read_refusal page) page

-- fields that keep the rules
unfoldable pub fields_fit : LogPage → Bool
fields_fit p =
    all
    (of_twelve p.settings.mode
    ∷ of_twelve p.settings.trigger
    ∷ window_fits p.active_window
    ∷ window_fits p.static_window
    ∷ debug_fits p.debug
    ∷ [])
