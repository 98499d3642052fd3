-- `put_fields`: the fields that are left, stored from here, give the whole.
use native.Mathlib.Omega.{arith}
use borrow.Author.Rules.{rules}
use lib.ListN.{length, length-append}
use Rattle.std.proofs.lemmas.Slice.Zip.{zip_turn, zip_end}
use Rattle.endian.proofs.stores.Laws.{fields-more, fields-end}
use Rattle.endian.proofs.stores.put_fields.Goals as goal

pub loop-width-preserved : goal.loop-width-preserved
loop-width-preserved c =
    let turn =
    zip_turn c.args.widths.now c.args.values.now c.loop-width.yielded c.into_iter-width-iterator.result
    c.loop-width.width-iterator
    c.next.new.self
    _
    (search rules)
    (search rules)
    c.loop-width.yielded_by
    _
    c.in-Some.is
    c.next.ensures.steps
    in
    record {
      can_next = search rules;
      is_finite = search rules;
      room = omega arith;
      left =
          rw length-append
          (fields-more c.args.widths.now c.args.values.now (length c.loop-width.yielded) c.loop-width.s c.put.new.s _
          c.loop-width.place _ (omega arith) (search rules) (rw (turn.2 0) at c.end_of-end.ensures)
          c.loop-width.invariant.left
          (rw (turn.3 0) at c.put.ensures));
    }

pub returns : goal.returns
returns c =
    let turns =
    zip_end c.args.widths.now c.args.values.now c.loop-width.yielded c.into_iter-width-iterator.result
    c.loop-width.width-iterator
    c.next.new.self
    _
    (search rules)
    (search rules)
    c.loop-width.yielded_by
    c.in-None.is
    c.next.ensures.steps
    in
    fields-end c.args.widths.now c.args.values.now (length c.loop-width.yielded) _ _ c.loop-width.place (omega arith)
    c.loop-width.invariant.left
