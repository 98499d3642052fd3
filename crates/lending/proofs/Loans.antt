-- A record that is lent, of any plain type: to be read, or to be written. What is had of it, and how it is loaded,
-- opened and shut.
use mathlib.Core.Path.{◌≡◌, refl, sym}
use Prim.Native.Nat.{ℕ, zero}
use mathlib.Core.List.{[], ◌∷◌, List}
use seplogic.Ra.Ura.{Ura}
use base.Fraction.{full_share}
use mir.Syntax.{Ty, Body, place, deref, copy, rv_opd, assign, seq}
use mir.Val.{vptr}
use base.Fml.{Lft, Share, Fml, flft, fobs, fbor, fobor, fauth}
use prog.Wp.{Calls, Loops, Env, spot_of}
use types.Logic.{Logic}
use types.Kit.{Item, Sq, Goal, Post, Soaks, runs, ‵, ◌⊛◌, ◌$◌, !, move, drop, rewrite}
use types.Run.{look, look_raw, init, stop, hop, load, of_opd, assigns}
use types.SemTy.{Body as Behind}
use denote.RattleType.{RattleType}
use denote.Laws.{Is, shows}
use denote.Memory.{mem, cell_at, hidden_shr}
use denote.Ref.{Bor, MutBor}
use denote.Steps.{opens, closes, looks, shuts, owned, peeks, facts}
use denote.Struct.Steps.{spelt}
use Rattle.lending.proofs.PlainData.{Plain}
use Rattle.lending.proofs.Locals.{room, cell, found}

-- x is the reference, and q the share of its lifetime's token
module _ {X : RattleType} (PX : Plain X) {M : Type 1} (𝓤 : Ura M) (κ : Lft) (q : Share) (x : MutBor X.Denot) where
  abbrev pub token : Item 𝓤
  token = ‵ (flft κ q)

  abbrev Held : Fml
  Held = Behind (mem X) x.ref_ptr.0 x.ref_ptr.1 x.ghost_name

  -- the record in memory, where it is m
  abbrev pub there : X.Denot → Item 𝓤
  there m = ‵ (cell_at full_share (PX.mir ∷ []) (PX.val m ∷ []) x.ref_ptr.0 x.ref_ptr.1)

  abbrev pub seen : X.Denot → Item 𝓤
  seen m = ‵ (fobs x.ghost_name (X.coded.code m))

  abbrev pub known : Item 𝓤
  known = ‵ (fauth x.ghost_name (X.coded.code x.now))

  abbrev pub borrow : Item 𝓤
  borrow = ‵ (fbor κ Held)

  abbrev pub opened : Item 𝓤
  opened = ‵ (fobor κ q Held)

  -- what is had of one that is lent to be written, where it is m, shut and open
  abbrev pub shut : X.Denot → Item 𝓤
  shut m = seen m ⊛ borrow ⊛ token

  abbrev pub unshut : X.Denot → Item 𝓤
  unshut m = there m ⊛ opened ⊛ seen x.now ⊛ known

  abbrev Whole : X.Denot → Type 0
  Whole m = Is X m (PX.val m ∷ [])

  module _ (𝓛 : Logic 𝓤) {Γ : List (Item 𝓤)} where
    open 𝓛 use {H}

    module _ {G : Goal 𝓤 H} (soaks : Soaks G) where
      pub opens-lent : (Whole x.now → Sq 𝓛 (there x.now ∷ opened ∷ seen x.now ∷ known ∷ Γ) G)
          → Sq 𝓛 (seen x.now ∷ borrow ∷ token ∷ Γ) G
      opens-lent k =
          let b = x.ref_ptr.0 in
          let o = x.ref_ptr.1 in
          opens ! soaks X {h = x.now} b o (λ vs.
          spelt ! X (Is X) (shows 𝓛 X) (λ m. PX.val m ∷ []) PX.tells full_share x.now vs b o $
          rewrite ! 0 (λ τs. ‵ (cell_at full_share τs (PX.val x.now ∷ []) b o)) PX.mir_is refl $
          move ! (1 ∷ []) $ facts ! X (Is X) (shows 𝓛 X) x.now (PX.val x.now ∷ []) k)

      pub closes-lent : (m : X.Denot) → Whole m → Sq 𝓛 (seen m ∷ borrow ∷ token ∷ Γ) G
          → Sq 𝓛 (there m ∷ opened ∷ seen x.now ∷ known ∷ Γ) G
      closes-lent m is k =
          let b = x.ref_ptr.0 in
          let o = x.ref_ptr.1 in
          rewrite ! 0 (λ τs. ‵ (cell_at full_share τs (PX.val m ∷ []) b o)) (sym PX.mir_is) refl $
          owned ! X (Is X) (PX.makes 𝓛) m _ is $ move ! (1 ∷ 0 ∷ []) $
          closes ! soaks X m (PX.val m ∷ []) b o $ k

-- one that is lent to be read, through a `&`
module _ {X : RattleType} (PX : Plain X) {M : Type 1} (𝓤 : Ura M) (κ : Lft) (q : Share) (x : Bor X.Denot) where
  abbrev token-read : Item 𝓤
  token-read = ‵ (flft κ q)

  abbrev sharing : Item 𝓤
  sharing = ‵ (hidden_shr X κ x.now x.ref_ptr.0 x.ref_ptr.1)

  -- what is had of it
  abbrev pub shared : Item 𝓤
  shared = sharing ⊛ token-read

  module _ (𝓛 : Logic 𝓤) {Γ : List (Item 𝓤)} where
    open 𝓛 use {H}

    -- one that is lent to be read is loaded from behind the pointer in the local i into the local t
    pub loads : {C : Calls 𝓤 H} {Λ : Loops 𝓤 H} {E : Env 𝓤 H} {i t b l : ℕ} {τ : Ty} {rest : Body} {p : Post 𝓤 H}
        → spot_of 𝓤 H E i ≡ (τ, b, zero) → spot_of 𝓤 H E t ≡ (PX.mir, l, zero)
        → (Is X x.now (PX.val x.now ∷ []) → Sq 𝓛 (token-read ∷ ‵ (cell PX.mir l (PX.val x.now))
        ∷ ‵ (cell τ b (vptr x.ref_ptr.0 x.ref_ptr.1)) ∷ Γ) (runs C Λ E rest p))
        → Sq 𝓛 (sharing ∷ token-read ∷ ‵ (room PX.mir l) ∷ ‵ (cell τ b (vptr x.ref_ptr.0 x.ref_ptr.1)) ∷ Γ)
        (runs C Λ E (seq (assign (place t []) (rv_opd (copy (place i (deref PX.mir ∷ []))))) rest) p)
    loads at_i at-t k =
        let b = x.ref_ptr.0 in
        let o = x.ref_ptr.1 in
        looks ! tt X (PX.opens 𝓛) x.now b o (λ s vs.
        spelt ! X (Is X) (shows 𝓛 X) (λ m. PX.val m ∷ []) PX.tells s x.now vs b o $
        rewrite ! 0 (λ τs. ‵ (cell_at s τs (PX.val x.now ∷ []) b o)) PX.mir_is refl $ move ! (1 ∷ []) $
        peeks ! X (Is X) (shows 𝓛 X) x.now (PX.val x.now ∷ []) (λ is.
        -- [what it owns; the record; the open borrow; the borrow; the local t; the pointer; …]
        assigns ! (of_opd ! (load ! (found ! at_i (hop ! (look ! 5 refl) (stop !))) (look_raw ! 1 refl)))
        (found ! at-t (stop !)) (init ! 4 refl (PX.typed 𝓛 x.now _ is)) $ move ! (1 ∷ 0 ∷ []) $
        rewrite ! 0 (λ τs. ‵ (cell_at s τs (PX.val x.now ∷ []) b o)) (sym PX.mir_is) refl $
        shuts ! tt X s x.now (PX.val x.now ∷ []) b o $ move ! (1 ∷ []) $ drop ! $ k is))
