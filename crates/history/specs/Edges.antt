-- 01, At the edges: the cases P1 to P12 as one table, with one claim about its rows.
use Rattle.std.specs.Prelude.{◌≡◌, Bool, true, false, List, [], ◌∷◌, ℕ, ◌+◌, ◌*◌, get_or, take, drop}
use Rattle.std.specs.Prelude.{Option, None, Some}
use Rattle.endian.specs.Stores.{low_first}
use Rattle.logpage.specs.Page.{page_bytes}
use Rattle.logpage.specs.declared.page.LogPage.{LogPage}
use Rattle.rules.specs.declared.commands.Command.{Command}
use Rattle.monitor.specs.declared.record.Monitor.{Monitor}
use Rattle.rules.specs.Answers.{CallAnswer, not_counted, counted, ended}
use Rattle.monitor.specs.Calls.{All}
use Rattle.rules.specs.Settings.{encoded}
use Rattle.monitor.specs.Record.{new_monitor, after_settings, after_completion, completion_answer, after_elapsed}
use Rattle.monitor.specs.Record.{elapsed_answer}

-- a new monitor after settings with enable 1: this timer threshold and these thresholds A to D, all else zero
unfoldable pub enabled_with : ℕ → List ℕ → Monitor
enabled_with threshold thresholds =
    after_settings new_monitor
    (encoded
    (record {
      timer_threshold = threshold;
      mode = 0;
      trigger = 0;
      thresholds = thresholds;
      minimum_window = 0;
      enabled = true;
    }))

-- a Read of so many µs
abbrev pub read : ℕ → Command
read us = record { opcode = 2; deallocate = false; latency = us }

-- thresholds of 5, 10, 20 and 50 ms
abbrev pub usual : List ℕ
usual = 0 ∷ 1 ∷ 3 ∷ 9 ∷ []

-- what is answered to elapsed times, one after the other
unfoldable pub elapsed_answers : Monitor → List ℕ → List CallAnswer
elapsed_answers m [] = []
elapsed_answers m (ms ∷ later) = elapsed_answer m ms ∷ elapsed_answers (after_elapsed m ms) later

-- a row of the table: a Read and its bucket, by these thresholds; a Read, its bucket, and the latency measured there;
-- elapsed times, and whether each ends a window, by this timer threshold; a bucket, a kind, and the page byte where
-- their stamp begins
pub data Edge : Type 0 where
  bucket : (thresholds : List ℕ) (us : ℕ) → Option ℕ → Edge
  measures : (us bucket ms : ℕ) → Edge
  ends : (threshold : ℕ) → List ℕ → List Bool → Edge
  stamp_at : (bucket kind place : ℕ) → Edge

-- the Read counter of a bucket is 3 × bucket; its first completion loads the stamp
abbrev pub read_answer : Option ℕ → CallAnswer
read_answer None = not_counted
read_answer (Some b) = counted (3 * b) true false

abbrev pub ended_answers : List Bool → List CallAnswer
ended_answers [] = []
ended_answers (b ∷ later) = ended b ∷ ended_answers later

-- what a row says of the rules
abbrev pub Holds : Edge → Type 0
Holds (bucket thresholds us b) = completion_answer (enabled_with 1 thresholds) (read us) ≡ read_answer b
Holds (measures us b ms) =
    get_or (after_completion (enabled_with 1 usual) (read us)).active_window.latencies (3 * b) 0 ≡ ms
Holds (ends threshold times answers) = elapsed_answers (enabled_with threshold usual) times ≡ ended_answers answers
Holds (stamp_at b k place) =
    (p : LogPage) → take 8 (drop place (page_bytes p)) ≡ low_first 8 (get_or p.active_window.stamps (3 * b + k) 0)

abbrev pub edges : List Edge
edges =
    bucket usual 4999 None  -- P1
    ∷ bucket usual 5000 (Some 0)  -- P2
    ∷ bucket usual 9999 (Some 0)  -- P3
    ∷ bucket usual 10000 (Some 1)  -- P4
    ∷ bucket usual 49999 (Some 2)  -- P5
    ∷ bucket usual 50000 (Some 3)  -- P6
    ∷ measures 4294967295 3 65535  -- P7
    ∷ measures 7999 0 7  -- P8
    ∷ bucket (1 ∷ 1 ∷ 3 ∷ 9 ∷ []) 10000 (Some 1)  -- P9
    ∷ ends 1 (299999 ∷ 1 ∷ []) (false ∷ true ∷ [])  -- P10
    ∷ stamp_at 3 0 112  -- P11
    ∷ stamp_at 0 2 168  -- P12
    ∷ []

-- Every row of the table holds.
abbrev pub EdgesHold : Type 0
EdgesHold = All Holds edges
