-- The record with another part, and all else as it was: what definitions and laws say of a changed record.
use Rattle.std.specs.Prelude.{Bool, List, ℕ}
use Rattle.window.specs.declared.fields.Window.{Window}
use Rattle.logpage.specs.declared.fields.DebugLog.{DebugLog}
use Rattle.logpage.specs.declared.fields.Settings.{Settings}
use Rattle.monitor.specs.declared.record.Monitor.{Monitor}

abbrev pub with_settings : Monitor → Settings → Monitor
with_settings m settings =
    record {
      settings = settings;
      clock = m.clock;
      host_set = m.host_set;
      timer = m.timer;
      partial = m.partial;
      active_window = m.active_window;
      loaded = m.loaded;
      active_below_a = m.active_below_a;
      static_window = m.static_window;
      static_below_a = m.static_below_a;
      debug = m.debug;
    }

abbrev pub with_clock : Monitor → (clock : ℕ) (set_by_host : Bool) → Monitor
with_clock m clock set_by_host =
    record {
      settings = m.settings;
      clock = clock;
      host_set = set_by_host;
      timer = m.timer;
      partial = m.partial;
      active_window = m.active_window;
      loaded = m.loaded;
      active_below_a = m.active_below_a;
      static_window = m.static_window;
      static_below_a = m.static_below_a;
      debug = m.debug;
    }

abbrev pub with_timer : Monitor → (timer partial : ℕ) → Monitor
with_timer m timer partial =
    record {
      settings = m.settings;
      clock = m.clock;
      host_set = m.host_set;
      timer = timer;
      partial = partial;
      active_window = m.active_window;
      loaded = m.loaded;
      active_below_a = m.active_below_a;
      static_window = m.static_window;
      static_below_a = m.static_below_a;
      debug = m.debug;
    }

-- with the times of its loads, and its counts below threshold A
abbrev pub with_active_window : Monitor → Window → (loaded below_a : List ℕ) → Monitor
with_active_window m window loaded below_a =
    record {
      settings = m.settings;
      clock = m.clock;
      host_set = m.host_set;
      timer = m.timer;
      partial = m.partial;
      active_window = window;
      loaded = loaded;
      active_below_a = below_a;
      static_window = m.static_window;
      static_below_a = m.static_below_a;
      debug = m.debug;
    }

-- with its counts below threshold A
abbrev pub with_static_window : Monitor → Window → (below_a : List ℕ) → Monitor
with_static_window m window below_a =
    record {
      settings = m.settings;
      clock = m.clock;
      host_set = m.host_set;
      timer = m.timer;
      partial = m.partial;
      active_window = m.active_window;
      loaded = m.loaded;
      active_below_a = m.active_below_a;
      static_window = window;
      static_below_a = below_a;
      debug = m.debug;
    }

abbrev pub with_debug_log : Monitor → DebugLog → Monitor
with_debug_log m debug =
    record {
      settings = m.settings;
      clock = m.clock;
      host_set = m.host_set;
      timer = m.timer;
      partial = m.partial;
      active_window = m.active_window;
      loaded = m.loaded;
      active_below_a = m.active_below_a;
      static_window = m.static_window;
      static_below_a = m.static_below_a;
      debug = debug;
    }
