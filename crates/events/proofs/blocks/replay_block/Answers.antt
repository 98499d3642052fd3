-- `replay_block`: the records that have room are those of a part of the input.
use Rattle.std.proofs.Common.{◌≡◌, ◌*◌, ◌/◌, take, length}
use Rattle.std.proofs.lemmas.List.{take_min}
use Rattle.events.specs.Blocks.{with_room}
use Rattle.events.proofs.blocks.replay_block.Goals as goal

pub returns : goal.returns
unfolding with_room
returns c =
    let room = 16 * (length c.args.out.now / 50) in
    let part : take c.min.result c.args.s.now ≡ take room c.args.s.now =
    rw c.min.ensures (take_min room c.args.s.now)
    in
    rw part at c.replay_lines.ensures
