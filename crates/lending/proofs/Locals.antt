-- The locals of a function: freeing one, finding one among the others, those of a list of types, and a `match` on one.
use mathlib.Core.Path.{◌≡◌, refl, sym, ap, subst, ◌∙◌}
use Prim.Native.Nat.{ℕ, zero, suc}
use mathlib.Core.List.{[], ◌∷◌, ◌++◌, List}
use seplogic.Ra.Ura.{Ura}
use base.Fraction.{full_share}
use mir.Syntax.{Ty, Tyss, ttnil, ttcons, Body, Step as PStep, Local, local, value_local, place, field, variant, copy}
use mir.Syntax.{switch, seq}
use mir.Val.{Val}
use base.Fml.{Fml, ftrue, fat, froom, fdies}
use prog.Wp.{Heap, Calls, Loops, Env, Spot, spot_of}
use types.Logic.{Logic}
use base.Logic.{SProp, wand, all, all_e, apply∗}
use types.Kit.{Item, nth, Seq, Step, Goal, Post, step, runs, allocs, frees, ‵, raw, ◌⊛◌, mean, ◌$◌, ◌∵◌, !, qed}
use types.Kit.{drop, move, split, join, frame, each, assume, use1, use2, done}
use types.Run.{Walks as Resolves, Finds, forget, stop, fld, from, load, first, alloc1, free1}
use types.Part.{Part, whole}
use types.Match.{Variants, vrt, look_tag, by_variants}
use denote.Steps.{nothing}
use Rattle.lending.proofs.PlainData.{arms, Tagged}

-- ---- locals
abbrev pub value : Ty → Local
value τ = local τ value_local

abbrev pub room : Ty → ℕ → Fml
room τ l = froom τ l zero

abbrev pub cell : Ty → ℕ → Val → Fml
cell τ l v = fat full_share τ l zero v

module _ {M : Type 1} {𝓤 : Ura M} {𝓛 : Logic 𝓤} {K : Type 0} {Γ : List (Item 𝓤)} where
  -- a local is freed, whatever it holds
  open 𝓛 use {H}

  pub frees-cell : K → {τ : Ty} {l : ℕ} {v : Val} {E : Env 𝓤 H} {g : Goal 𝓤 H}
      → Step K 𝓛 Γ (frees E g) (‵ (cell τ l v) ∷ ‵ (fdies τ l) ∷ Γ) (frees ((τ, l) ∷ E) g)
  frees-cell t = step (λ s. forget t 0 refl $ free1 t $ s)

  -- a place in a local that stands somewhere among the others
  pub found : K → {E : Env 𝓤 H} {p : ℕ} {st : List PStep} {at sp : Spot 𝓤 H}
      → spot_of 𝓤 H E p ≡ at → Resolves K 𝓛 Γ E at st sp → Finds K 𝓛 Γ E (place p st) sp
  found t {E} {p} {st} {at} {sp} e w = from t (subst (λ at. Resolves K 𝓛 Γ E at st sp) (sym e) w)

-- ---- locals of a list of types, one after the other: what is had of all of them is one item
abbrev pub Each : Type 0 → List Ty → Type 0
Each X [] = Unit {0}
Each X (τ ∷ τs) = X × Each X τs

abbrev pub values : List Ty → List Local
values [] = []
values (τ ∷ τs) = value τ ∷ values τs

abbrev pub env : (τs : List Ty) → Each ℕ τs → List (Ty × ℕ)
env [] ls = []
env (τ ∷ τs) ls = (τ, ls.0) ∷ env τs ls.1

-- the number of a local that stands behind them
abbrev pub past : List Ty → ℕ → ℕ
past [] i = i
past (τ ∷ τs) i = suc (past τs i)

pub spot_past : {M : Type 1} (𝓤 : Ura M) (H : Heap 𝓤) (τs : List Ty) (ls : Each ℕ τs) (E : Env 𝓤 H) (i : ℕ)
    → spot_of 𝓤 H (env τs ls ++ E) (past τs i) ≡ spot_of 𝓤 H E i
spot_past 𝓤 H [] ls E i = refl
spot_past 𝓤 H (τ ∷ τs) ls E i = spot_past 𝓤 H τs ls.1 E i

module _ {M : Type 1} (𝓤 : Ura M) where
  abbrev pub rooms : (τs : List Ty) → Each ℕ τs → Item 𝓤
  rooms [] ls = ‵ ftrue
  rooms (τ ∷ τs) ls = ‵ (room τ ls.0) ⊛ rooms τs ls.1

  abbrev pub cells : (τs : List Ty) → Each ℕ τs → Each Val τs → Item 𝓤
  cells [] ls vs = ‵ ftrue
  cells (τ ∷ τs) ls vs = ‵ (cell τ ls.0 vs.0) ⊛ cells τs ls.1 vs.1

  abbrev pub dies : (τs : List Ty) → Each ℕ τs → Item 𝓤
  dies [] ls = ‵ ftrue
  dies (τ ∷ τs) ls = ‵ (fdies τ ls.0) ⊛ dies τs ls.1

module _ {M : Type 1} {𝓤 : Ura M} {𝓛 : Logic 𝓤} {K : Type 0} where
  open 𝓛 use {H}

  pub alloc_all : {Γ : List (Item 𝓤)} → K → (τs : List Ty) (ls : List Local) {Kt : Env 𝓤 H → Goal 𝓤 H}
      → ((at : Each ℕ τs) → Seq K 𝓛 (rooms 𝓤 τs at ∷ dies 𝓤 τs at ∷ Γ) (allocs ls (λ E. Kt (env τs at ++ E))))
      → Seq K 𝓛 Γ (allocs (values τs ++ ls) Kt)
  alloc_all t [] ls k = nothing t $ nothing t $ k tt
  alloc_all {Γ = Γ} t (τ ∷ τs) ls {Kt = Kt} k =
      alloc1 t (λ l. alloc_all {Γ = ‵ (room τ l) ∷ ‵ (fdies τ l) ∷ Γ} t τs ls (λ at.
      -- [the others' rooms; their dies; the room; its dies; …]
      move t (2 ∷ 0 ∷ []) $ join t $ move t (2 ∷ 1 ∷ []) $ join t $ move t (1 ∷ 0 ∷ []) $ k (l, at)))

  pub frees_all : {Γ : List (Item 𝓤)} → K → (τs : List Ty) (at : Each ℕ τs) (vs : Each Val τs) (E : Env 𝓤 H)
      {g : Goal 𝓤 H} → Step K 𝓛 Γ (frees E g) (cells 𝓤 τs at vs ∷ dies 𝓤 τs at ∷ Γ) (frees (env τs at ++ E) g)
  frees_all t [] at vs E = step (λ s. drop t $ drop t $ s)
  frees_all t (τ ∷ τs) at vs E =
      step (λ s. split t $ move t (2 ∷ []) $ split t $ move t (2 ∷ 0 ∷ 3 ∷ 1 ∷ []) $ frees-cell t $
      frees_all t τs at.1 vs.1 E $ s)

  -- a cell within an item of two
  pub in-first : K → {τ : Ty} {b : ℕ} {v : Val} {J : Item 𝓤}
      → Part K 𝓛 (‵ (cell τ b v) ⊛ J) full_share τ b zero v (λ u. ‵ (cell τ b u) ⊛ J)
  in-first t {τ} {b} {v} {J} = record {
    out = qed 𝓛 ((‵ (cell τ b v) ⊛ J) ∷ []) ∵ split ! $ frame ! $
        each ! (λ (u : Val). wand 𝓤 (H.at full_share τ b zero u) (mean 𝓛 (‵ (cell τ b u) ⊛ J)))
        (λ u. assume {P = mean 𝓛 (‵ (cell τ b u) ⊛ J)} ! (‵ (cell τ b u)) $ frame ! $ done !);
    same = refl;
  }

  pub in_rest : K → {I J : Item 𝓤} {τ : Ty} {b : ℕ} {v : Val} {back : Val → Item 𝓤}
      → Part K 𝓛 J full_share τ b zero v back → Part K 𝓛 (I ⊛ J) full_share τ b zero v (λ u. I ⊛ back u)
  in_rest t {I} {J} {τ} {b} {v} {back} p = record {
    out = qed 𝓛 ((I ⊛ J) ∷ []) ∵ split ! $ move ! (1 ∷ []) $
        use1 𝓛 (‵ (cell τ b v) ⊛ raw (all 𝓤 Way)) p.out $ split ! $ frame ! $
        each ! (λ (u : Val). wand 𝓤 (H.at full_share τ b zero u) (mean 𝓛 (I ⊛ back u)))
        (λ u. assume {P = mean 𝓛 (I ⊛ back u)} ! (‵ (cell τ b u)) $
        -- [the cell with u; the way back; I]
        move ! (1 ∷ []) $ use1 𝓛 (raw (Way u)) (all_e 𝓤 Way u) $ move ! (1 ∷ 0 ∷ []) $
        use2 𝓛 (back u) (apply∗ 𝓤 (H.at full_share τ b zero u) (mean 𝓛 (back u))) $ move ! (1 ∷ 0 ∷ []) $
        frame ! $ done !);
    same = ap (λ (j : Item 𝓤). I ⊛ j) p.same;
  }
    where
      Way : Val → SProp 𝓤
      Way u = wand 𝓤 (H.at full_share τ b zero u) (mean 𝓛 (back u))

-- ---- a `match` on an enum, which the local l holds, with one statement in all its arms
abbrev pub matching : {X : Type 0} {τ : Ty} {val : X → Val} → Tagged τ val → ℕ → Body → Body
matching e l s =
    switch (copy (place l (variant 0 ∷ field 0 ∷ []))) (arms 0 (ttcons e.first e.others) s)

module _ {M : Type 1} {𝓤 : Ura M} {𝓛 : Logic 𝓤} {K : Type 0} where
  open 𝓛 use {H}

  cell-part : K → {i : Item 𝓤} {τ : Ty} {b : ℕ} {v : Val} → i ≡ ‵ (cell τ b v)
      → Part K 𝓛 i full_share τ b zero v (λ u. ‵ (cell τ b u))
  cell-part t {i} {τ} {b} {v} is =
      subst (λ (j : Item 𝓤). Part K 𝓛 j full_share τ b zero v (λ u. ‵ (cell τ b u))) (sym is) (whole t)

  module _ {Γ : List (Item 𝓤)} {C : Calls 𝓤 H} {Λ : Loops 𝓤 H} {E : Env 𝓤 H} {s : Body} where
    -- each arm runs as the statement does
    each-runs : {q : Post 𝓤 H} (k : ℕ) → Seq K 𝓛 Γ (runs C Λ E s q) → (i : ℕ) (τss : Tyss)
        → Variants K 𝓛 Γ C Λ E q k (arms i τss s)
    each-runs k run i ttnil = tt
    each-runs k run i (ttcons τs τss) = ((λ _. run), each-runs k run (suc i) τss)

    -- and so does the whole
    pub matches : K → {rest : Body} {q : Post 𝓤 H} {X : Type 0} {τ : Ty} {val : X → Val} (e : Tagged τ val) (x : X)
        {l b : ℕ} (n : ℕ) → spot_of 𝓤 H E l ≡ (τ, b, zero) → nth 𝓛 n Γ ≡ ‵ (cell τ b (val x))
        → Step K 𝓛 Γ (runs C Λ E (seq s rest) q) Γ (runs C Λ E (seq (matching e l s) rest) q)
    matches t e x {b = b} n at held =
        let at_tag = at ∙ ap (λ (τ : Ty). (τ, b, zero)) e.mir_is in
        let part = cell-part t (held ∙ (λ i. ‵ (cell (e.mir_is i) b (e.val_is x i)))) in
        let tag = load t (found t at_tag (vrt t refl (fld t refl (stop t)))) (look_tag t n part) in
        step (λ k. first t $ by_variants t n part tag (e.covered s)
        (each-runs (e.tag x) (record { prf = k.prf }) 0 (ttcons e.first e.others)))
