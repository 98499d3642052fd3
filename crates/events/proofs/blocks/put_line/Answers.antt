-- `put_line`: the line's bytes are copied to their place.
use Rattle.std.proofs.Common.{◌≡◌, [], ◌∷◌, arith}
use Rattle.refusals.specs.Refusals.{number_of}
use Rattle.text.specs.Lines.{refused_line}
use Rattle.events.proofs.blocks.Laws.{line-put}
use Rattle.events.proofs.blocks.put_line.Goals as goal

pub returns : goal.returns
returns c =
    let line : c.as_bytes-bytes.result.now ≡ refused_line (c.args.index ∷ number_of c.args.refusal ∷ []) = cc in
    line-put _ _ _ _ c.args.at line (omega arith) c.requires c.copy_from_slice.ensures.after
