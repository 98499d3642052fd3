-- The calls that only read: what they leave of the lent buffer, and what they return or answer.
use Rattle.std.specs.Prelude.{List, ℕ, length}
use Rattle.logpage.specs.Page.{page_bytes}
use Rattle.logpage.specs.declared.page.LogPage.{LogPage}
use Rattle.window.specs.declared.fields.Window.{Window}
use Rattle.monitor.specs.declared.record.Monitor.{Monitor}
use Rattle.monitor.specs.declared.windows.WindowChoice.{WindowChoice}
use Rattle.monitor.specs.declared.windows.WindowChoice.TheVariants.{Active, Static}
use Rattle.rules.specs.Answers.{CallAnswer, done, unless_refused}
use Rattle.monitor.specs.Record.{untouched_if}
use Rattle.rules.specs.Refusals.{page_refusal, settings_back_refusal}
use Rattle.rules.specs.Settings.{encoded}

-- what the page shows of a record
abbrev pub fields_of : Monitor → LogPage
fields_of m =
    record {
      settings = m.settings;
      timer = m.timer;
      active_window = m.active_window;
      static_window = m.static_window;
      debug = m.debug;
    }

-- 01, The page: the page of a record
unfoldable pub page_of : Monitor → List ℕ
page_of m = page_bytes (fields_of m)

unfoldable pub after_page : Monitor → List ℕ → List ℕ
after_page m buffer = untouched_if (page_refusal (length buffer)) buffer (page_of m)

unfoldable pub page_answer : ℕ → CallAnswer
page_answer n = unless_refused (page_refusal n) done

-- 01, Settings: the settings given back
unfoldable pub settings_of : Monitor → List ℕ
settings_of m = encoded m.settings

unfoldable pub after_settings_back : Monitor → List ℕ → List ℕ
after_settings_back m buffer = untouched_if (settings_back_refusal (length buffer)) buffer (settings_of m)

unfoldable pub settings_back_answer : ℕ → CallAnswer
settings_back_answer n = unless_refused (settings_back_refusal n) done

-- 02, Ticket 2: either window, and its counts below threshold A by kind
abbrev pub chosen_window : WindowChoice → Monitor → Window
chosen_window Active m = m.active_window
chosen_window Static m = m.static_window

abbrev pub counts_below_a : WindowChoice → Monitor → List ℕ
counts_below_a Active m = m.active_below_a
counts_below_a Static m = m.static_below_a
