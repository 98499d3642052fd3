-- `Progress::take`: the lines of a whole block have room, so all of it is taken.
use Rattle.std.proofs.Common.{◌≡◌, ℕ, ◌+◌, ◌/◌, List, length, arith}
use Rattle.monitor.specs.declared.record.Monitor.{Monitor}
use Rattle.monitor.specs.Calls.{play_from}
use Rattle.events.specs.Files.{history_of}
use Rattle.events.proofs.Bounds.{all-with-room}
use Rattle.page.specs.declared.progress.Progress.{Progress}
use Rattle.page.specs.Progress.{after_block}
use Rattle.page.proofs.progress.Progress.take.Goals as goal

block-taken :
    (p : Progress) (s : List ℕ) (m : Monitor) →
    m ≡ play_from p.monitor (history_of s) →
    ◌≡◌ {A = Progress} (record { monitor = m; next = p.next + length s / 16 }) (after_block p s)
unfolding after_block
block-taken p s m played = rw played

pub returns-clause-progress : goal.returns-clause-progress
returns-clause-progress c =
    let all = all-with-room c.args.s.now c.args.lines.now (omega arith) in
    block-taken _ _ _ (rw all at c.replay_block-len.ensures.monitor)

pub returns-clause-lines : goal.returns-clause-lines
returns-clause-lines c =
    let all = all-with-room c.args.s.now c.args.lines.now (omega arith) in
    rw all at c.replay_block-len.ensures.lines
