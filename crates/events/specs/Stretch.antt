-- What a stretch keeps apart.
use Rattle.std.specs.Prelude.{◌≡◌}
use Rattle.logpage.specs.declared.fields.Settings.{Settings}
use Rattle.monitor.specs.declared.record.Monitor.{Monitor}
use Rattle.batch.specs.declared.parts.Active.{Active}
use Rattle.batch.specs.Tally.{Apart}

-- the monitor's settings are those of the table of places, and its active window is kept apart from it
pub record Steady (settings : Settings) (m : Monitor) (a : Active) : Type 0 where
  pub in_force : settings ≡ m.settings
  pub apart : Apart m a
