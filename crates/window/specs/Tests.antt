-- Tests, one after the other.
use Rattle.std.specs.Prelude.{Bool, true, ◌&&◌, List, [], ◌∷◌}

-- whether every test of a list passes
abbrev pub passes : Bool → List Bool → Bool
passes so_far [] = so_far
passes so_far (test ∷ tests) = passes (so_far && test) tests

abbrev pub all : List Bool → Bool
all tests = passes true tests
