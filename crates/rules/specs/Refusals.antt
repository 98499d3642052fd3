-- 01, Where a call is turned away: rows 1 to 10 of its table. Row 11 is that of `records`, row 12 that of `events`.
use Rattle.std.specs.Prelude.{ℕ, Bool, not, ◌||◌, List, eqb, ltb, length, get_or, drop}
use Rattle.std.specs.Prelude.{Option, None}
use Rattle.endian.specs.Bytes.{any_set}
use Rattle.logpage.specs.Answers.{row}
use Rattle.logpage.specs.declared.fields.Settings.{Settings}
use Rattle.rules.specs.Settings.{discard, enable, decoded}

-- whether one of two numbers is above a limit
abbrev pub either_above : ℕ → ℕ → ℕ → Bool
either_above top a b = ltb top a || ltb top b

-- whether a threshold is above the next
abbrev pub unordered : List ℕ → Bool
unordered t =
    ltb (get_or t 1 0) (get_or t 0 0) || (ltb (get_or t 2 0) (get_or t 1 0) || ltb (get_or t 3 0) (get_or t 2 0))

-- rows 3 to 6, about the fields. A mask above 4,095 has a bit that belongs to no counter. Settings that disable are
-- checked as those that enable are
unfoldable pub field_refusal : ℕ → ℕ → Settings → Option ℕ
field_refusal discard enable s =
    row 3 (either_above 1 discard enable)
    (row 4 (eqb s.timer_threshold 0)
    (row 5 (unordered s.thresholds) (row 6 (either_above 4095 s.mode s.trigger) None)))

-- rows 1 and 2, about length and reserved bytes, before those about the fields
unfoldable pub settings_refusal : List ℕ → Option ℕ
settings_refusal s =
    row 1 (not (eqb (length s) 4096))
    (row 2 (any_set (drop 13 s)) (field_refusal (discard s) (enable s) (decoded s)))

-- row 7: elapsed time of more than five minutes
unfoldable pub elapsed_refusal : ℕ → Option ℕ
elapsed_refusal ms = row 7 (ltb 300000 ms) None

-- row 8: a clock of more than 48 bits
unfoldable pub clock_refusal : ℕ → Option ℕ
clock_refusal value = row 8 (ltb 281474976710655 value) None

-- row 9: a buffer that a page does not fill exactly
unfoldable pub page_refusal : ℕ → Option ℕ
page_refusal n = row 9 (not (eqb n 512)) None

-- row 10: a buffer that settings do not fill exactly
unfoldable pub settings_back_refusal : ℕ → Option ℕ
settings_back_refusal n = row 10 (not (eqb n 4096)) None
