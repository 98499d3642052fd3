-- `bit`: within the mask's sixteen bits.
use borrow.Author.Rules.{rules}
use Rattle.rules.proofs.counting.Laws.{bit-within}
use Rattle.rules.proofs.counting.bit.Goals as goal

pub returns : goal.returns
returns c = bit-within c.args.mask c.args.n (search rules)
