-- A block after which the next one is read is whole: its 4,096 records are counted.
use Rattle.std.proofs.Common.{◌≡◌, ℕ, ◌+◌, ◌/◌, List, ap, length, arith}
use Rattle.page.specs.declared.progress.Progress.{Progress}
use Rattle.page.specs.Progress.{after_block}
use Rattle.page.proofs.read_all.Goals as goal

-- a block's records are counted
counted : (p q : Progress) (s : List ℕ) → p ≡ after_block q s → p.next ≡ q.next + length s / 16
unfolding after_block
counted p q s after = ap (λ (r : Progress). r.next) after

pub loop-next-smaller : goal.loop-next-smaller
loop-next-smaller g c =
    let further = counted _ _ _ (c.in_ok-next.ensures.next _ c.in-Continue.is) in omega (arith, further)
