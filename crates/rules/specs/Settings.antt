-- 01, Settings: the fields, read from 4,096 bytes and written to them.
use Rattle.std.specs.Prelude.{ℕ, ◌+◌, List, [], ◌∷◌, ◌++◌, eqb, get_or}
use Rattle.endian.specs.Bytes.{word}
use Rattle.endian.specs.Stores.{low_first}
use Rattle.window.specs.Block.{zeros, flag}
use Rattle.logpage.specs.declared.fields.Settings.{Settings}

-- the byte at a place, 0 past the end
abbrev byte : List ℕ → ℕ → ℕ
byte s at = get_or s at 0

-- the field of two bytes from a place
abbrev word_at : List ℕ → ℕ → ℕ
word_at s at = word (byte s at) (byte s (at + 1))

-- the order to discard the debug log (document 01: debug record)
abbrev pub discard : List ℕ → ℕ
discard s = byte s 11

-- whether to enable
abbrev pub enable : List ℕ → ℕ
enable s = byte s 12

-- the settings that the bytes say; discard is an order and not among them
unfoldable pub decoded : List ℕ → Settings
decoded s =
    record {
      timer_threshold = word_at s 0;
      thresholds = byte s 2 ∷ byte s 3 ∷ byte s 4 ∷ byte s 5 ∷ [];
      mode = word_at s 6;
      minimum_window = byte s 8;
      trigger = word_at s 9;
      enabled = eqb (enable s) 1;
    }

-- the settings given back: every byte is written, that of discard as zero
unfoldable pub encoded : Settings → List ℕ
encoded s =
    low_first 2 s.timer_threshold  -- 0-1: timer threshold
    ++ low_first 1 (byte s.thresholds 0)  -- 2-5: thresholds A to D
    ++ low_first 1 (byte s.thresholds 1)
    ++ low_first 1 (byte s.thresholds 2)
    ++ low_first 1 (byte s.thresholds 3)
    ++ low_first 2 s.mode  -- 6-7: mode of each counter
    ++ low_first 1 s.minimum_window  -- 8: minimum window
    ++ low_first 2 s.trigger  -- 9-10: debug log trigger of each counter
    ++ zeros 1  -- 11: discard
    ++ low_first 1 (flag s.enabled)  -- 12: enable
    ++ zeros 4083
