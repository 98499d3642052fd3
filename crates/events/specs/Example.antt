-- 01, The page program: the example of an input, and of what is printed for it.
use Rattle.std.specs.Prelude.{◌≡◌, ℕ, List, [], ◌∷◌, ◌++◌}
use Prim.Native.Char.{code}
use Prim.Native.String.{String, [] as nothing, ◌∷◌ as ◌then◌}
use Rattle.events.specs.Blocks.{printed}

-- settings with timer threshold 2, A-D 0, 1, 3, 9, mode 0, minimum window 0, trigger 0001h, discard 0, enable 1;
-- elapsed 1,000; completion 02h with 7,500
unfoldable pub example_input : List ℕ
example_input =
    1 ∷ 2 ∷ 0 ∷ 0 ∷ 1 ∷ 3 ∷ 9 ∷ 0 ∷ 0 ∷ 0 ∷ 1 ∷ 0 ∷ 0 ∷ 1 ∷ 0 ∷ 0
    ∷ 3 ∷ 0 ∷ 0 ∷ 0 ∷ 0xE8 ∷ 0x03 ∷ 0 ∷ 0 ∷ 0 ∷ 0 ∷ 0 ∷ 0 ∷ 0 ∷ 0 ∷ 0 ∷ 0
    ∷ 2 ∷ 2 ∷ 0 ∷ 0 ∷ 0x4C ∷ 0x1D ∷ 0 ∷ 0 ∷ 0 ∷ 0 ∷ 0 ∷ 0 ∷ 0 ∷ 0 ∷ 0 ∷ 0 ∷ []

-- a line of text as bytes, with its newline
unfoldable pub line_of : String → List ℕ
line_of nothing = 10 ∷ []
line_of (c then text) = code c ∷ line_of text

-- what is printed
unfoldable pub example_text : List ℕ
example_text =
    line_of "000: 01000000020000010309000000000000"
    ++ line_of "020: 00000000000000000000000001000000"
    ++ line_of "060: FFFFFFFFFFFFFFFFFFFFFFFFFFFFFFFF"
    ++ line_of "070: FFFFFFFFFFFFFFFFFFFFFFFFFFFFFFFF"
    ++ line_of "080: FFFFFFFFFFFFFFFFFFFFFFFFFFFFFFFF"
    ++ line_of "090: FFFFFFFFFFFFFFFFFFFFFFFFFFFFFFFF"
    ++ line_of "0A0: FFFFFFFFFFFFFFFFFFFFFFFFFFFFFFFF"
    ++ line_of "0B0: FFFFFFFFFFFFFFFFE803000000000000"
    ++ line_of "0D0: 00000000000007000000000000000000"
    ++ line_of "130: FFFFFFFFFFFFFFFFFFFFFFFFFFFFFFFF"
    ++ line_of "140: FFFFFFFFFFFFFFFFFFFFFFFFFFFFFFFF"
    ++ line_of "150: FFFFFFFFFFFFFFFFFFFFFFFFFFFFFFFF"
    ++ line_of "160: FFFFFFFFFFFFFFFFFFFFFFFFFFFFFFFF"
    ++ line_of "170: FFFFFFFFFFFFFFFFFFFFFFFFFFFFFFFF"
    ++ line_of "180: FFFFFFFFFFFFFFFFFFFFFFFFFFFFFFFF"
    ++ line_of "1C0: 01000700E80300000000000000000100"

abbrev pub ExamplePrinted : Type 0
ExamplePrinted = printed example_input ≡ example_text
