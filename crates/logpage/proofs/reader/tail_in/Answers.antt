-- `tail_in`: no value has more bytes than its field.
use Prim.Native.Nat.{ℕ}
use borrow.Author.Rules.{rules}
use Rattle.logpage.specs.Page.{tail_widths}
use Rattle.logpage.proofs.reader.Laws.{part-bounded}
use Rattle.logpage.proofs.reader.tail_in.Goals as goal

pub invariant_of-result : goal.invariant_of-result
invariant_of-result c =
    record {
      bounded = part-bounded tail_widths c.args.page.now _ 448 17 (λ (k : ℕ). search rules) c.values.ensures;
    }
