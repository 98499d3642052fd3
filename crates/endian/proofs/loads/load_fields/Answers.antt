-- `load_fields`: the fields that are left, stored from here, give them all.
use mathlib.Core.Path.{refl}
use native.Mathlib.Omega.{arith}
use borrow.Author.Rules.{rules}
use Rattle.endian.specs.Stores.{total}
use Rattle.endian.proofs.loads.Laws.{values-more, place-more, values-end}
use Rattle.endian.proofs.loads.load_fields.Goals as goal

pub loop-i-init : goal.loop-i-init
unfolding total
loop-i-init c = record { place = omega arith; left = refl }

pub loop-i-preserved : goal.loop-i-preserved
loop-i-preserved c =
    let s = c.args.s.now in
    let widths = c.args.widths.now in
    record {
      place = place-more s widths c.loop-i.i c.loop-i.place _ (search rules) c.loop-i.invariant.place c.end_of-end.ensures;
      left =
          values-more s widths c.loop-i.i _ _ c.loop-i.place _ _ (search rules) c.loop-i.invariant.place
          c.end_of-end.ensures
          c.load.ensures
          c.loop-i.invariant.left;
    }

pub returns : goal.returns
returns c = values-end c.args.s.now c.args.widths.now c.loop-i.i _ _ (search rules) c.loop-i.invariant.left
