-- `any_set`: what the fold has made so far is whether a byte of those passed is set.
use mathlib.Core.Path.{◌≡◌, refl, ap, ◌∙◌}
use borrow.Author.Rules.{rules}
use Rattle.std.proofs.lemmas.Fn.{fold_over, slice_gives, fronts}
use Rattle.endian.specs.Bytes.{any_set}
use Rattle.endian.proofs.Numbers.{set-push}
use Rattle.endian.proofs.any_set.Goals as goal

pub returns : goal.returns
unfolding any_set
returns c =
    fold_over fronts (λ b. b.now) _ (λ bs set. set ≡ any_set bs) _
    (λ bs before b after f passed called. let more = set-push bs b.now in search rules)
    _ _ _ _ (slice_gives c.iter.result) refl c.fold.ensures.ran
    ∙ ap any_set c.iter.ensures.rest
