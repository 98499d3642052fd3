-- Laws of the listing.
use Rattle.std.proofs.Common.{cond, ltb, ◌≡◌, ℕ, ◌+◌, ◌<◌, ◌≤◌, List, [], ◌∷◌, ◌++◌, length, drop, get_or, add-one, length-drop, arith}
use borrow.Author.Tests.{lt-ltb, le-ltb}
use native.Mathlib.Decide.{dec_lt}
use Rattle.std.proofs.lemmas.List.{drop_more, drop_all}
use Rattle.std.proofs.lemmas.Bool.Decides.{nat_tests}
use Rattle.text.specs.Listing.{counts_line, counts_lines}

-- what is left of a list of which the first n have gone
pub drop_cases : (xs : List ℕ) (n : ℕ) → drop n xs ≡ cond (ltb n (length xs)) (get_or xs n 0 ∷ drop (n + 1) xs) []
drop_cases xs n = by (dec_lt n (length xs))
  where
    by : Dec (n < length xs) → drop n xs ≡ cond (ltb n (length xs)) (get_or xs n 0 ∷ drop (n + 1) xs) []
    by (yes h) = rw (lt-ltb _ _ h) (drop_more xs n 0 h)
    by (no h) =
        let all : length xs ≤ n = omega arith in
        rw (le-ltb _ _ all) (drop_all n xs all)

-- one line more
pub lines_more :
    (active static : List ℕ) (n : ℕ) →
    counts_lines active static (n + 1) ≡ counts_lines active static n ++ counts_line n (get_or active n 0) (get_or static n 0)
unfolding counts_lines
lines_more active static n = rw (add-one n)

-- what a step of `counts_listing` takes
pub ruleset counters_steps = (nat_tests, drop_cases, lines_more, length-drop)
