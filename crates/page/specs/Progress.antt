-- How far the page program has come.
use Rattle.std.specs.Prelude.{List, ℕ, ◌+◌, length}
use Rattle.monitor.specs.Calls.{play_from}
use Rattle.monitor.specs.Record.{new_monitor}
use Rattle.events.specs.Blocks.{Stored, refused_lines}
use Rattle.events.specs.Files.{history_of, whole_records}
use Rattle.page.specs.declared.progress.Progress.{Progress}

-- before anything is read: a new monitor, and record 0 is the next
unfoldable pub nothing_read : Progress
nothing_read = record { monitor = new_monitor; next = 0 }

-- what a block leaves, whatever was read before it: the monitor that its records make of the one so far, and the number
-- of the record behind them. So `parts_printed` goes on from part to part.
unfoldable pub after_block : Progress → List ℕ → Progress
after_block p block =
    record { monitor = play_from p.monitor (history_of block); next = p.next + whole_records block }

-- a block's refused lines are at the start of the output; its first record has the number `next`
abbrev pub Told : (next : ℕ) (block before after : List ℕ) (took : ℕ) → Type 0
Told next block before = Stored (refused_lines next block) 0 (length before) before
