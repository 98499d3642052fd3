-- What is claimed of every history. The proofs are in proofs/.
use Rattle.std.specs.Prelude.{◌≡◌, List, ◌∷◌, ◌↔◌, false, ℕ, ◌+◌, ◌*◌, ◌%◌, ◌<◌, ltb, length, get_or, set, replicate}
use Rattle.std.specs.Prelude.{Option, None, Some}
use Rattle.logpage.specs.Page.{page_bytes}
use Rattle.logpage.specs.Reader.{shown, read_refusal, reading_of}
use Rattle.window.specs.Fields.{from, each}
use Rattle.history.specs.Facts.{in_force, clock_at, host_set_at, timer_threshold_of, enabled_time, window_at, timer_at}
use Rattle.history.specs.Facts.{Counted, active, static, count_of, last_load, stamp_of, latency_of, units_of}
use Rattle.history.specs.Facts.{window_from, debug_at, facts_of, sum, of_kind, below_a_counts}
use Rattle.monitor.specs.Calls.{elapsed, History, All, found, WithoutAttribute, play}
use Rattle.history.specs.Effects.{Past, OfBytes, settings_in, latest, past_of}
use Rattle.rules.specs.declared.commands.Command.{Command}
use Rattle.rules.specs.Commands.{kind_of}
use Rattle.rules.specs.Counting.{count_top}
use Rattle.rules.specs.Answers.{ended, unless_refused}
use Rattle.monitor.specs.Record.{untouched_if, elapsed_answer}
use Rattle.monitor.specs.declared.record.Monitor.{Monitor}
use Rattle.monitor.specs.declared.windows.WindowChoice.{WindowChoice}
use Rattle.monitor.specs.declared.windows.WindowChoice.TheVariants.{Active, Static}
use Rattle.rules.specs.Refusals.{elapsed_refusal, page_refusal, settings_back_refusal}
use Rattle.monitor.specs.Report.{page_of, after_page, settings_of, after_settings_back, chosen_window, counts_below_a}
use Rattle.rules.specs.Settings.{encoded}

-- the time in the active window at a stamp's load, which the record keeps for the minimum window
abbrev pub loaded_of : Option Counted → ℕ
loaded_of load = found 0 (λ x. enabled_time x.before % (300000 * timer_threshold_of x.before)) load

-- the record that the facts describe
unfoldable pub record_of : Past → Monitor
record_of past =
    record {
      settings = in_force past;
      timer = timer_at past;
      host_set = host_set_at past;
      partial = enabled_time past % 300000;
      clock = clock_at past;
      loaded = each (λ n. loaded_of (last_load (active past n)));
      active_below_a = below_a_counts Active past;
      static_below_a = below_a_counts Static past;
      debug = debug_at past;
      static_window = window_from (static past);
      active_window = window_from (active past);
    }

-- Playing a history by the calls' own definitions gives the record that its facts describe.
abbrev pub PlayedAsFacts : Type 0
PlayedAsFacts = (h : History) → play h ≡ record_of (past_of h)

-- 01, Time and power, what follows from its rule: elapsed time ends the active window exactly if the active window's
-- number, which the facts give, is higher after the call than before
abbrev pub WindowEnds : Type 0
WindowEnds =
    (h : History) (ms : ℕ) →
    elapsed_answer (play h) ms ≡
    unless_refused (elapsed_refusal ms) (ended (ltb (window_at (past_of h)) (window_at (past_of (elapsed ms ∷ h)))))

-- Demand 2, the page: after any history it is the page table, filled with the facts
abbrev pub PageShowsFacts : Type 0
PageShowsFacts = (h : History) → page_of (play h) ≡ page_bytes (facts_of (past_of h))

-- 02, Ticket 1: after any history the page is accepted, and read as the facts behind it
abbrev pub PageReadBack : Type 0
PageReadBack =
    (h : History) →
    OfBytes h →
    (read_refusal (page_of (play h)) ≡ None) × (reading_of (page_of (play h)) ≡ shown (facts_of (past_of h)))

-- Demand 2, the settings given back: they are the settings table, filled with the settings in force
abbrev pub SettingsShowFacts : Type 0
SettingsShowFacts = (h : History) → settings_of (play h) ≡ encoded (in_force (past_of h))

-- the bytes last accepted, with zero for discard; zeros if none were
unfoldable pub last_accepted : History → List ℕ
last_accepted h = found (replicate 4096 0) (λ s. set s 11 0) (latest settings_in (past_of h))

abbrev pub SettingsComeBack : Type 0
SettingsComeBack = (h : History) → OfBytes h → settings_of (play h) ≡ last_accepted h

-- 02, Ticket 1: settings in force, discard, which the page lacks, as 0: those that are read from the page after any
-- history are, as settings bytes, those last accepted
abbrev pub SettingsReadBack : Type 0
SettingsReadBack =
    (h : History) → OfBytes h → encoded (reading_of (page_of (play h))).page.settings ≡ last_accepted h

-- two lists of counted completions give a counter the same count, stamp, measured latency and stamp units
pub record SameCounter (xs ys : List Counted) : Type 0 where
  pub count : count_of xs ≡ count_of ys
  pub stamp : stamp_of (last_load xs) ≡ stamp_of (last_load ys)
  pub latency : latency_of (last_load xs) ≡ latency_of (last_load ys)
  pub units : units_of (last_load xs) ≡ units_of (last_load ys)

-- two histories have the same settings in force, timer and debug log and, for each counter of both windows, the same
-- count, stamp, measured latency and stamp units
pub record Agree (a b : Past) : Type 0 where
  pub settings : in_force a ≡ in_force b
  pub timer : timer_at a ≡ timer_at b
  pub active_windows : (n : ℕ) → n < 12 → SameCounter (active a n) (active b n)
  pub static_windows : (n : ℕ) → n < 12 → SameCounter (static a n) (static b n)
  pub debug : debug_at a ≡ debug_at b

-- Demand 3: two histories leave the same page bytes exactly if they agree
abbrev pub PagesAgree : Type 0
PagesAgree = (h k : History) → OfBytes h → OfBytes k → (page_of (play h) ≡ page_of (play k)) ↔ Agree (past_of h) (past_of k)

-- what `page` and `settings back` leave of a lent buffer, by the facts
unfoldable pub page_by_facts : History → List ℕ → List ℕ
page_by_facts h buffer = untouched_if (page_refusal (length buffer)) buffer (page_bytes (facts_of (past_of h)))

unfoldable pub settings_by_facts : History → List ℕ → List ℕ
settings_by_facts h buffer = untouched_if (settings_back_refusal (length buffer)) buffer (last_accepted h)

-- the two calls leave just that, on a record that a history leads to
abbrev pub PageGivesFacts : Type 0
PageGivesFacts = (h : History) (buffer : List ℕ) → after_page (play h) buffer ≡ page_by_facts h buffer

abbrev pub SettingsBackGiveFacts : Type 0
SettingsBackGiveFacts =
    (h : History) (buffer : List ℕ) → OfBytes h → after_settings_back (play h) buffer ≡ settings_by_facts h buffer

-- 02, Ticket 2: the call returns, after any history, the counts below threshold A that its facts give
abbrev pub BelowAShowsFacts : Type 0
BelowAShowsFacts = (h : History) (w : WindowChoice) → counts_below_a w (play h) ≡ below_a_counts w (past_of h)

-- a kind's five counts in a window: below threshold A, as the call returns it, and those of its four counters
abbrev pub five_counts : WindowChoice → Monitor → ℕ → List ℕ
five_counts w m k =
    get_or (counts_below_a w m) k 0 ∷ from 0 4 (λ bucket. get_or (chosen_window w m).counters (3 * bucket + k) 0)

-- 02, Ticket 2: unless one of the five is at its top, they add up to the enabled completions of the kind in the window,
-- counted from the history whatever their latencies
abbrev pub FiveCountsAddUp : Type 0
FiveCountsAddUp =
    (h : History) (w : WindowChoice) (k : ℕ) →
    k < 3 →
    All (λ count. count < count_top) (five_counts w (play h) k) →
    sum (five_counts w (play h) k) ≡ length (of_kind w (past_of h) k)

-- 02, Ticket 4: whatever its opcode, a completion without the deallocate attribute or bit is never Deallocate, kind 2
abbrev pub NeverDeallocate : Type 0
NeverDeallocate = (c : Command) → c.deallocate ≡ false → kind_of c ≡ Some 2 → ⊥

-- 02, Ticket 4: where no completion has the deallocate attribute or bit, nothing is counted as Deallocate in either
-- window
abbrev pub NoDeallocateCounted : Type 0
NoDeallocateCounted = (h : History) (w : WindowChoice) → WithoutAttribute h → five_counts w (play h) 2 ≡ replicate 5 0
