-- 01, The page: log page C3h, 512 bytes. What is not a field here is zero. Fields and widths are said here once, for
-- the writer and for the reader.
use Rattle.std.specs.Prelude.{List, [], ◌∷◌, ◌++◌, ℕ, ◌/◌, ◌%◌, ◌^◌, get_or}
use Rattle.endian.specs.Stores.{fields}
use Rattle.window.specs.Block.{zeros, flag, block_bytes}
use Rattle.logpage.specs.declared.fields.DebugLog.{DebugLog}
use Rattle.logpage.specs.declared.fields.Settings.{Settings}
use Rattle.window.specs.declared.fields.Window.{Window}
use Rattle.logpage.specs.declared.page.LogPage.{LogPage}

-- bytes 0 to 12
abbrev pub head_widths : List ℕ
head_widths = 1 ∷ 1 ∷ 2 ∷ 2 ∷ 1 ∷ 1 ∷ 1 ∷ 1 ∷ 2 ∷ 1 ∷ []

abbrev pub head_values : Settings → (timer : ℕ) → List ℕ
head_values s timer =
    flag s.enabled  -- 0: enabled, in bit 0
    ∷ 0
    ∷ timer  -- 2-3: Active Bucket Timer (document 01: steps)
    ∷ s.timer_threshold  -- 4-5: timer threshold
    ∷ get_or s.thresholds 0 0  -- 6-9: thresholds A to D
    ∷ get_or s.thresholds 1 0
    ∷ get_or s.thresholds 2 0
    ∷ get_or s.thresholds 3 0
    ∷ s.mode  -- 10-11: mode of each counter
    ∷ s.minimum_window  -- 12: minimum window
    ∷ []

-- bytes 448 to 464
abbrev pub tail_widths : List ℕ
tail_widths = 2 ∷ 2 ∷ 8 ∷ 2 ∷ 2 ∷ 1 ∷ []

abbrev pub tail_values : (trigger : ℕ) → DebugLog → List ℕ
tail_values trigger d =
    trigger  -- 448-449: debug log trigger of each counter
    ∷ d.latency  -- 450-451: debug log: measured latency
    ∷ d.stamp  -- 452-459: debug log: stamp, unset if none is held
    ∷ 0  -- 460-461: debug log: pointer, of no use here
    ∷ d.source  -- 462-463: debug log: source, the bit of its counter
    ∷ flag d.units  -- 464: debug log: stamp units
    ∷ []

-- log page version and GUID of document 001 (LMDATA-35, LMDATA-36), bytes 494 to 511; the GUID in two halves
abbrev pub version : ℕ
version = 0x0004

abbrev pub guid : ℕ
guid = 0x85D45E58D4E643709C6C84D08CC07A92

abbrev pub identity_widths : List ℕ
identity_widths = 2 ∷ 8 ∷ 8 ∷ []

abbrev pub identity_values : List ℕ
identity_values = version ∷ guid % 2 ^ 64 ∷ guid / 2 ^ 64 ∷ []

-- bytes 0 to 31, 32 to 447, and 448 to 511
unfoldable pub head_bytes : Settings → (timer : ℕ) → List ℕ
head_bytes s timer = fields head_widths (head_values s timer) ++ zeros 19

unfoldable pub windows_bytes : (active static : Window) → List ℕ
windows_bytes active static =
    block_bytes active  -- 32-217: active window (document 01: running)
    ++ zeros 22
    ++ block_bytes static  -- 240-425: static window (document 01: last finished)
    ++ zeros 22  -- in 001 the debug log's size is among them (LMDATA-37): out of scope, zero

unfoldable pub tail_bytes : (trigger : ℕ) → DebugLog → List ℕ
tail_bytes trigger d =
    fields tail_widths (tail_values trigger d) ++ zeros 29 ++ fields identity_widths identity_values

unfoldable pub page_bytes : LogPage → List ℕ
page_bytes p =
    head_bytes p.settings p.timer
    ++ windows_bytes p.active_window p.static_window
    ++ tail_bytes p.settings.trigger p.debug
