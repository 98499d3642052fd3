-- `settings`: the bytes fill the array.
use mathlib.Core.Path.{◌≡◌, ◌∙◌}
use native.Mathlib.Omega.{arith}
use lib.ListN.{length, replicate, drop, length-drop}
use lib.Seq.{length-take-le}
use Rattle.endian.proofs.Runs.{sets-whole}
use Rattle.records.specs.Records.{part}
use Rattle.records.proofs.event.settings.Goals as goal

pub returns : goal.returns
returns c =
    let r = c.args.r.now in
    let thirteen : length (part 1 14 r) ≡ 13 = length-take-le 13 (drop 1 r) (omega (arith, length-drop 1 r, c.told-r)) in
    c.copy.ensures ∙ sets-whole (replicate 13 0) (part 1 14 r) thirteen
