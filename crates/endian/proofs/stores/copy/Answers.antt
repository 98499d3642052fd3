-- `copy`: what has no room is left out.
use mathlib.Core.Path.{sym}
use Rattle.endian.proofs.Runs.{sets-room}
use Rattle.endian.proofs.stores.copy.Goals as goal

pub returns : goal.returns
returns c = rw (c.copy_from_slice.ensures.after, c.min-n.ensures) (sym (sets-room c.args.s.now c.args.from.now))
