-- `load_fields`: the fields that are left, stored from here, give them all.
use mathlib.Core.Path.{◌≡◌}
use Prim.Native.Nat.{min}
use lib.ListN.{length, take, drop}
use lib.Seq.{sets}
use Rattle.endian.specs.Loads.{values_at}
use Rattle.endian.specs.Stores.{total}
use Rattle.endian.proofs.loads.load_fields.Given as goal

abbrev pub invariant-loop-i : goal.invariant-loop-i
invariant-loop-i l =
    record {
      place : l.place ≡ min (total (take l.i l.widths)) (length l.s);
      left :
          sets l.values l.i (values_at (total (take l.i l.widths)) (drop l.i l.widths) l.s) ≡
          sets l.initial.values 0 (values_at 0 l.widths l.s);
    }
