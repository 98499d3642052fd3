-- What is taken of a block.
use Rattle.std.proofs.Common.{◌≡◌, ℕ, ◌*◌, ◌/◌, ◌≤◌, List, length, take_all}
use Rattle.events.specs.Blocks.{with_room}

-- all of a block is taken where its lines have room
pub all-with-room : (s output : List ℕ) → length s ≤ 16 * (length output / 50) → with_room s output ≡ s
unfolding with_room
all-with-room s output h = take_all (16 * (length output / 50)) s h
