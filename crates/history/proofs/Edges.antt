-- The table of edges: each row is computed.
use mathlib.Core.Path.{◌≡◌, refl, ap, ◌∙◌}
use mathlib.Core.Bool.{true}
use mathlib.Core.List.{List, [], ◌∷◌}
use Rattle.std.specs.Prelude.{Option, None, Some}
use Prim.Native.Nat.{ℕ, ◌*◌}
use lib.ListN.{get_or, take, drop}
use Rattle.endian.specs.Bytes.{any_set}
use Rattle.endian.specs.Stores.{low_first, fields}
use Rattle.window.specs.Block.{buckets, downward, block_bytes}
use Rattle.logpage.specs.Fields.{no_debug_log}
use Rattle.window.specs.Fields.{empty_window}
use Rattle.logpage.specs.Page.{head_bytes, windows_bytes, page_bytes}
use Rattle.logpage.specs.declared.page.LogPage.{LogPage}
use Rattle.monitor.specs.declared.record.Monitor.{Monitor}
use Rattle.rules.specs.Commands.{kind_of, highest, bucket_of, counter_of, milliseconds_of}
use Rattle.rules.specs.Counting.{loads, counted_in, triggers}
use Rattle.history.specs.Edges.{enabled_with, read, usual, elapsed_answers, bucket, measures, read_answer, Holds}
use Rattle.history.specs.Edges.{EdgesHold}
use Rattle.monitor.specs.Fields.{with_settings}
use Rattle.monitor.specs.Record.{new_monitor, after_settings, after_completion}
use Rattle.monitor.specs.Record.{completion_answer, after_elapsed, elapsed_answer}
use Rattle.rules.specs.Refusals.{settings_refusal, field_refusal, elapsed_refusal}
use Rattle.rules.specs.Settings.{decoded, encoded}
use Rattle.rules.specs.Timer.{ticked}

-- the record that settings with enable 1 leave of a new monitor
abbrev enabled-record : List ℕ → Monitor
enabled-record thresholds =
    with_settings new_monitor
    (record {
      timer_threshold = 1;
      mode = 0;
      trigger = 0;
      thresholds = thresholds;
      minimum_window = 0;
      enabled = true;
    })

-- the settings' bytes are computed here once for each table of thresholds, and not in each row
usual-record : enabled_with 1 usual ≡ enabled-record usual
unfolding enabled_with new_monitor after_settings settings_refusal field_refusal any_set low_first decoded encoded
usual-record = refl

equal-record : enabled_with 1 (1 ∷ 1 ∷ 3 ∷ 9 ∷ []) ≡ enabled-record (1 ∷ 1 ∷ 3 ∷ 9 ∷ [])
unfolding enabled_with new_monitor after_settings settings_refusal field_refusal any_set low_first decoded encoded
equal-record = refl

-- a row of the usual thresholds, from its computation
by-usual : {A : Type 0} (f : Monitor → A) (r : A) → f (enabled-record usual) ≡ r → f (enabled_with 1 usual) ≡ r
by-usual f r row = ap f usual-record ∙ row

counted-row :
    (us : ℕ) (b : Option ℕ) →
    completion_answer (enabled-record usual) (read us) ≡ read_answer b →
    Holds (bucket usual us b)
counted-row us b row = by-usual (λ m. completion_answer m (read us)) (read_answer b) row

measured-row :
    (us b ms : ℕ) →
    get_or (after_completion (enabled-record usual) (read us)).active_window.latencies (3 * b) 0 ≡ ms →
    Holds (measures us b ms)
measured-row us b ms row =
    by-usual (λ m. get_or (after_completion m (read us)).active_window.latencies (3 * b) 0) ms row

equal-row : Holds (bucket (1 ∷ 1 ∷ 3 ∷ 9 ∷ []) 10000 (Some 1))
unfolding new_monitor completion_answer counter_of bucket_of highest kind_of milliseconds_of loads triggers empty_window no_debug_log
equal-row = ap (λ m. completion_answer m (read 10000)) equal-record

-- P11, P12: the places on the page
stamp-of-nine : (p : LogPage) → take 8 (drop 112 (page_bytes p)) ≡ low_first 8 (get_or p.active_window.stamps 9 0)
unfolding page_bytes head_bytes windows_bytes block_bytes buckets downward fields low_first
stamp-of-nine p = refl

stamp-of-two : (p : LogPage) → take 8 (drop 168 (page_bytes p)) ≡ low_first 8 (get_or p.active_window.stamps 2 0)
unfolding page_bytes head_bytes windows_bytes block_bytes buckets downward fields low_first
stamp-of-two p = refl

pub edges-hold : EdgesHold
unfolding new_monitor completion_answer after_completion counter_of bucket_of highest kind_of milliseconds_of loads triggers counted_in elapsed_answers elapsed_answer after_elapsed elapsed_refusal ticked empty_window no_debug_log
edges-hold = (
  counted-row 4999 None refl,
  (
    counted-row 5000 (Some 0) refl,
    (
      counted-row 9999 (Some 0) refl,
      (
        counted-row 10000 (Some 1) refl,
        (
          counted-row 49999 (Some 2) refl,
          (
            counted-row 50000 (Some 3) refl,
            (
              measured-row 4294967295 3 65535 refl,
              (
                measured-row 7999 0 7 refl,
                (
                  equal-row,
                  (
                    by-usual (λ m. elapsed_answers m (299999 ∷ 1 ∷ [])) _ refl,
                    (
                      stamp-of-nine,
                      (
                        stamp-of-two,
                        tt,
                      ),
                    ),
                  ),
                ),
              ),
            ),
          ),
        ),
      ),
    ),
  ),
)
