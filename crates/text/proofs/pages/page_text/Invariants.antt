-- `page_text`: the lines of the rows so far are appended.
use Rattle.std.proofs.Common.{◌≡◌, ◌*◌, ◌≤◌}
use Rattle.arrayvec.specs.ArrayString.{array_string_len}
use Rattle.text.specs.Pages.{lines}
use Rattle.text.proofs.pages.page_text.Given as goal

abbrev pub invariant-loop-n : goal.invariant-loop-n
invariant-loop-n l =
    (array_string_len l.text ≤ 38 * l.n) × (l.text.bytes ≡ lines l.page l.n)
