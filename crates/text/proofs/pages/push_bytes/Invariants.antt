-- `push_bytes`: the bytes so far are appended.
use Rattle.std.proofs.Common.{◌≡◌, ◌++◌, ◌+◌, ◌*◌, take}
use Rattle.arrayvec.specs.ArrayString.{array_string_len}
use Rattle.text.specs.Pages.{hex_bytes}
use Rattle.text.proofs.pages.push_bytes.Given as goal

abbrev pub invariant-loop-byte : goal.invariant-loop-byte
invariant-loop-byte g l =
    (array_string_len l.text ≡ array_string_len l.initial.text + 2 * l.byte-index)
    × (l.text.bytes ≡ l.initial.text.bytes ++ hex_bytes (take l.byte-index l.row))
