-- `put_fields`: the fields that are left, stored from here, give the whole.
use mathlib.Core.Path.{◌≡◌}
use Prim.Native.Nat.{◌≤◌}
use lib.ListN.{length, drop}
use lib.Seq.{sets}
use Rattle.endian.specs.Stores.{fields}
use Rattle.endian.proofs.stores.put_fields.Given as goal

abbrev pub invariant-loop-width : goal.invariant-loop-width
invariant-loop-width l =
    record {
      can_next : (goal.iterator-loop-width).can_next l.width-iterator;
      is_finite : (goal.iterator-loop-width).is_finite l.width-iterator;
      room : l.place ≤ length l.initial.s;
      left :
          sets l.s l.place (fields (drop (length l.yielded) l.widths) (drop (length l.yielded) l.values)) ≡
          sets l.initial.s 0 (fields l.widths l.values);
    }
