-- Laws of the page: its stores, one after the other.
use mathlib.Core.Bool.{cond}
use mathlib.Core.List.{List, ◌++◌}
use mathlib.Core.Path.{◌≡◌, refl, sym, ◌∙◌, ap}
use Prim.Native.Nat.{ℕ, ◌+◌, ◌-◌, ◌≤◌}
use native.Mathlib.Omega.{arith}
use borrow.Author.Tests.{eq-eqb}
use borrow.Rule.Slice.PartMut.{put_mid}
use lib.Dec.{eqb}
use lib.ListN.{length, take, drop, length-append, length-drop}
use lib.Seq.{sets, length-sets, length-take-le}
use Rattle.endian.specs.Stores.{low_first, fields}
use Rattle.endian.proofs.Runs.{low_zeros, part-run, put-part, run-part, run_more, sets-whole}
use Rattle.window.specs.Block.{zeros, block_bytes}
use Rattle.logpage.specs.Page.{head_widths, head_values, head_bytes, windows_bytes, tail_widths, tail_values, tail_bytes}
use Rattle.logpage.specs.Page.{identity_widths, identity_values, page_bytes}
use Rattle.logpage.specs.declared.fields.DebugLog.{DebugLog}
use Rattle.logpage.specs.declared.fields.Settings.{Settings}
use Rattle.window.specs.declared.fields.Window.{Window}
use Rattle.logpage.specs.declared.page.LogPage.{LogPage}
use Rattle.logpage.proofs.Lengths.{length-head, length-head-fields, length-windows, length-tail-fields}
use Rattle.logpage.proofs.Lengths.{length-identity, length-page}
use Rattle.window.proofs.Lengths.{length-block}

-- after a run of stores, zeros in the part behind it
zeros-more :
    (page cur part before : List ℕ) (base at n : ℕ) →
    at ≡ base + length before →
    at + n ≤ length cur →
    cur ≡ sets page base before →
    part ≡ low_first (length (take n (drop at cur))) 0 →
    put_mid at n cur part ≡ sets page base (before ++ zeros n)
zeros-more page cur part before base at n p h e e' =
    let k : at + n - at ≡ n = omega arith in
    let put : put_mid at n cur part ≡ sets cur at (low_first n 0) =
    rw k at (put-part cur part at (at + n) n 0 k h (rw k e'))
    in
    run_more page cur _ before (zeros n) base at p e (put ∙ rw (low_zeros n))

-- fields, and zeros after them
pub head-run :
    (s : Settings) (timer : ℕ) (page part₁ part₂ : List ℕ) →
    length page ≡ 512 →
    part₁ ≡ sets (take 13 page) 0 (fields head_widths (head_values s timer)) →
    part₂ ≡ low_first (length (take 19 (drop 13 (put_mid 0 13 page part₁)))) 0 →
    put_mid 13 19 (put_mid 0 13 page part₁) part₂ ≡ sets page 0 (head_bytes s timer)
unfolding head_bytes
head-run s timer page part₁ part₂ h e₁ e₂ =
    let first : List ℕ = fields head_widths (head_values s timer) in
    let n₁ = length-head-fields s timer in
    let r₁ = run-part page part₁ first 0 13 13 refl (omega arith) n₁ e₁ in
    let k₁ : length (put_mid 0 13 page part₁) ≡ 512 = ap length r₁ ∙ length-sets page 0 first ∙ h in
    zeros-more page _ part₂ first 0 13 19 (omega arith) (omega arith) r₁ e₂

-- the two blocks, and the zeros after each
-- a block that `write_block` fills
block_at :
    (l b bytes : List ℕ) (at : ℕ) →
    at + 186 ≤ length l →
    b ≡ cond (eqb (length (take 186 (drop at l))) 186) bytes (take 186 (drop at l)) →
    b ≡ bytes
block_at l b bytes at fits e =
    e ∙ rw (eq-eqb _ _ (length-take-le 186 (drop at l) (omega (arith, length-drop at l))))

pub windows-run :
    (active static : Window) (page b₁ z₂ b₃ z₄ : List ℕ) →
    length page ≡ 512 →
    b₁ ≡ cond (eqb (length (take 186 (drop 32 page))) 186) (block_bytes active) (take 186 (drop 32 page)) →
    let s₁ = put_mid 32 186 page b₁ in
    z₂ ≡ low_first (length (take 22 (drop 218 s₁))) 0 →
    let s₂ = put_mid 218 22 s₁ z₂ in
    b₃ ≡ cond (eqb (length (take 186 (drop 240 s₂))) 186) (block_bytes static) (take 186 (drop 240 s₂)) →
    let s₃ = put_mid 240 186 s₂ b₃ in
    z₄ ≡ low_first (length (take 22 (drop 426 s₃))) 0 →
    put_mid 426 22 s₃ z₄ ≡ sets page 32 (windows_bytes active static)
unfolding windows_bytes
windows-run active static page b₁ z₂ b₃ z₄ h e₁ e₂ e₃ e₄ =
    let first : List ℕ = block_bytes active in
    let to-240 : List ℕ = first ++ zeros 22 in
    let to-426 : List ℕ = to-240 ++ block_bytes static in
    let s₁ : List ℕ = put_mid 32 186 page b₁ in
    let s₂ : List ℕ = put_mid 218 22 s₁ z₂ in
    let s₃ : List ℕ = put_mid 240 186 s₂ b₃ in
    let n₁ = length-block active in
    let n₂ : length to-240 ≡ 208 = simp (length-append, length-block) in
    let n₃ : length to-426 ≡ 394 = simp (length-append, length-block) in
    let r₁ = part-run page b₁ first 32 186 (omega arith) n₁ (block_at page b₁ first 32 (omega arith) e₁) in
    let k₁ : length s₁ ≡ 512 = ap length r₁ ∙ length-sets page 32 first ∙ h in
    let r₂ = zeros-more page s₁ z₂ first 32 218 22 (omega arith) (omega arith) r₁ e₂ in
    let k₂ : length s₂ ≡ 512 = ap length r₂ ∙ length-sets page 32 to-240 ∙ h in
    let p₃ =
    part-run s₂ b₃ (block_bytes static) 240 186 (omega arith) (length-block static)
    (block_at s₂ b₃ (block_bytes static) 240 (omega arith) e₃)
    in
    let r₃ = run_more page s₂ s₃ to-240 (block_bytes static) 32 240 (omega arith) r₂ p₃ in
    let k₃ : length s₃ ≡ 512 = ap length r₃ ∙ length-sets page 32 to-426 ∙ h in
    zeros-more page s₃ z₄ to-426 32 426 22 (omega arith) (omega arith) r₃ e₄

-- fields, zeros, version and GUID
pub tail-run :
    (trigger : ℕ) (d : DebugLog) (page part₁ part₂ part₃ : List ℕ) →
    length page ≡ 512 →
    part₁ ≡ sets (take 17 (drop 448 page)) 0 (fields tail_widths (tail_values trigger d)) →
    let s₁ = put_mid 448 17 page part₁ in
    part₂ ≡ low_first (length (take 29 (drop 465 s₁))) 0 →
    let s₂ = put_mid 465 29 s₁ part₂ in
    part₃ ≡ sets (take 18 (drop 494 s₂)) 0 (fields identity_widths identity_values) →
    put_mid 494 18 s₂ part₃ ≡ sets page 448 (tail_bytes trigger d)
unfolding tail_bytes
tail-run trigger d page part₁ part₂ part₃ h e₁ e₂ e₃ =
    let first : List ℕ = fields tail_widths (tail_values trigger d) in
    let to-494 : List ℕ = first ++ zeros 29 in
    let s₁ : List ℕ = put_mid 448 17 page part₁ in
    let s₂ : List ℕ = put_mid 465 29 s₁ part₂ in
    let n₁ = length-tail-fields trigger d in
    let n₂ : length to-494 ≡ 46 = simp (length-append, length-tail-fields) in
    let r₁ = run-part page part₁ first 448 465 17 refl (omega arith) n₁ e₁ in
    let k₁ : length s₁ ≡ 512 = ap length r₁ ∙ length-sets page 448 first ∙ h in
    let r₂ = zeros-more page s₁ part₂ first 448 465 29 (omega arith) (omega arith) r₁ e₂ in
    let k₂ : length s₂ ≡ 512 = ap length r₂ ∙ length-sets page 448 to-494 ∙ h in
    let last : List ℕ = fields identity_widths identity_values in
    let r₃ = run-part s₂ part₃ last 494 512 18 refl (omega arith) length-identity e₃ in
    run_more page s₂ _ to-494 last 448 494 (omega arith) r₂ r₃

-- head, windows and tail
pub page-run :
    (p : LogPage) (page s₁ s₂ s₃ : List ℕ) →
    length page ≡ 512 →
    s₁ ≡ sets page 0 (head_bytes p.settings p.timer) →
    s₂ ≡ sets s₁ 32 (windows_bytes p.active_window p.static_window) →
    s₃ ≡ sets s₂ 448 (tail_bytes p.settings.trigger p.debug) →
    s₃ ≡ page_bytes p
unfolding page_bytes
page-run p page s₁ s₂ s₃ h e₁ e₂ e₃ =
    let head : List ℕ = head_bytes p.settings p.timer in
    let windows : List ℕ = windows_bytes p.active_window p.static_window in
    let tail : List ℕ = tail_bytes p.settings.trigger p.debug in
    let n₁ : length head ≡ 32 = length-head p.settings p.timer in
    let n₂ : length (head ++ windows) ≡ 448 = simp (length-append, length-head, length-windows) in
    let r₂ = run_more page s₁ s₂ head windows 0 32 (omega arith) e₁ e₂ in
    run_more page s₂ s₃ (head ++ windows) tail 0 448 (omega arith) r₂ e₃
    ∙ sets-whole page (page_bytes p) (length-page p ∙ sym h)
