-- A list cut into chunks of one length.
use Rattle.std.proofs.Common.{◌≡◌, ℕ, zero, suc, ◌+◌, ◌*◌, ◌<◌, List, [], take, drop, get_or, arith, ◌∙◌}
use Rattle.std.proofs.lemmas.List.{drop-drop}
use Rattle.std.specs.Simd.{first_chunks}

-- chunk i of the first k
pub chunk-at : (xs : List ℕ) (n k i : ℕ) → i < k → get_or (first_chunks n k xs) i [] ≡ take n (drop (i * n) xs)
chunk-at xs n (suc k) zero h =
    let none : 0 * n ≡ 0 = omega arith in
    rw none
chunk-at xs n (suc k) (suc i) h =
    let more : n + i * n ≡ suc i * n = omega arith in
    chunk-at (drop n xs) n k i (omega arith) ∙ rw (drop-drop, more)
chunk-at xs n zero i h = absurd (omega arith)
