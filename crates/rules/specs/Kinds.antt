-- The kinds of commands that have counters.
use Rattle.std.specs.Prelude.{ℕ}
use Rattle.rules.specs.declared.kinds.Kind.{Kind}
use Rattle.rules.specs.declared.kinds.Kind.TheVariants.{Read, Write, Deallocate}

-- 01, The monitor's record: each kind's number
abbrev pub number_of : Kind → ℕ
number_of Read = 0
number_of Write = 1
number_of Deallocate = 2
