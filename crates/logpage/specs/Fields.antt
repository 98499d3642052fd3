-- The plain fields of log page C3h.
use Rattle.std.specs.Prelude.{false, ◌≡◌, ℕ, ◌<◌, length, get_or, replicate}
use Rattle.logpage.specs.declared.fields.Settings.{Settings}
use Rattle.logpage.specs.declared.fields.DebugLog.{DebugLog}
use Rattle.logpage.specs.declared.page.LogPage.{LogPage}
use Rattle.window.specs.Fields.{unset, FitsWindow}

-- 01, The monitor's record: the settings before any are accepted
unfoldable pub no_settings : Settings
no_settings =
    record {
      timer_threshold = 0;
      mode = 0;
      trigger = 0;
      thresholds = replicate 4 0;
      minimum_window = 0;
      enabled = false;
    }

-- 01, The monitor's record: no debug log is held (document 01: debug record); the unset stamp says so
unfoldable pub no_debug_log : DebugLog
no_debug_log = record { stamp = unset; latency = 0; source = 0; units = false }

-- what the code's types hold
pub record FitsSettings (s : Settings) : Type 0 where
  pub threshold : s.timer_threshold < 65536
  pub mode : s.mode < 65536
  pub trigger : s.trigger < 65536
  pub four : length s.thresholds ≡ 4
  pub thresholds : (n : ℕ) → get_or s.thresholds n 0 < 256
  pub minimum : s.minimum_window < 256

pub record FitsDebug (d : DebugLog) : Type 0 where
  pub stamp : d.stamp < 18446744073709551616
  pub latency : d.latency < 65536
  pub source : d.source < 65536

pub record Fits (p : LogPage) : Type 0 where
  pub settings : FitsSettings p.settings
  pub timer : p.timer < 65536
  pub active : FitsWindow p.active_window
  pub static : FitsWindow p.static_window
  pub debug : FitsDebug p.debug
