-- `push_numbers`: the numbers so far are appended.
use Rattle.std.proofs.Common.{◌≡◌, ◌++◌, ◌+◌, ◌*◌, ◌≤◌, take}
use Rattle.arrayvec.specs.ArrayString.{array_string_len}
use Rattle.text.specs.Lines.{spaced}
use Rattle.text.proofs.lines.push_numbers.Given as goal

abbrev pub invariant-loop-n : goal.invariant-loop-n
invariant-loop-n g l =
    (array_string_len l.text ≤ array_string_len l.initial.text + 21 * l.n-index)
    × (l.text.bytes ≡ l.initial.text.bytes ++ spaced (take l.n-index l.numbers))
