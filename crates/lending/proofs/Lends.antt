-- A function that hands its parameters on to a rule, and what it does with what the rule hands back: the argument that
-- is the same whatever the parameters are and whatever is done then.
use mathlib.Core.Path.{◌≡◌, refl, ap, ◌∙◌}
use Prim.Native.Nat.{ℕ, suc, ◌+◌}
use native.Mathlib.Omega.{arith}
use mathlib.Core.List.{[], ◌∷◌, ◌++◌, List}
use seplogic.Ra.Ura.{Ura}
use mir.Syntax.{Ty, Callee, Fn, Body, place, call, seq}
use mir.Val.{Val}
use base.Logic.{SProp, ent, emp, via, fst∗, id⊢}
use base.Fml.{Fml, fdies}
use prog.Model.{Model}
use prog.Routine.{Routine, Env as Routines}
use prog.Wp.{Heap, Calls, Loops, Env, WpFn, Closed, spot_of}
use types.Logic.{Logic}
use contract.Running.{Running}
use contract.Lifetimes.{Lfts, Shares}
use types.Kit.{Item, Sq, ⋆, mean, prop, lands, frees, at_ret, ‵, raw, ◌⊛◌, ◌$◌, ◌∵◌, !, qed, by, move, use1, use3}
use types.Kit.{split, join, rewrite, suffices, done}
use types.Run.{enter, alloc1, alloc0, params1, free0}
use types.Part.{look_in}
use sound.WpLaws.{FmC}
use denote.RattleType.{RattleType, Denots, flat, owns}
use denote.Laws.{Are, Ises}
use denote.Signature.{Slot, plain}
use denote.Triple.Statement.{Contract, Triple}
use denote.Triple.Call.{calls_from}
use denote.Triple.Entry.{Args, on_entry}
use denote.Triple.Spec.{Meets}
use denote.Triple.Table.{cited}
use denote.Triple.Clauses.{Ended, Clauses, Lasts, AtExit, at_exit, closing}
use denote.Triple.End.{all}
use denote.Triple.Walked.{walk_of, ends_at, walked}
use denote.Exit.{yes}
use Rattle.lending.proofs.PlainData.{Plain}
use Rattle.lending.proofs.Locals.{value, values, room, cell, Each, env, past, spot_past, rooms, cells, dies}
use Rattle.lending.proofs.Locals.{frees-cell, alloc_all, frees_all}
use Rattle.lending.proofs.Parameters.{Parameters, lfts, rule-lfts, down, shares-down, given, taken, Side, side}
use Rattle.lending.proofs.Parameters.{as-given, as-taken, pass, spell, tell, spelt, Stored, Left, lasting}
use Rattle.lending.proofs.Parameters.{stays, fits}
use Rattle.lending.proofs.Parameters.{same-lasts, go, loans, held, back, rest, tokens, rule-tokens, enters}
use Rattle.lending.proofs.Parameters.{owned-by-rule, rule-lasts, lasts, leaves}
use Rattle.lending.proofs.Parameters.{handed}
use Rattle.lending.proofs.Handing.{locals, contents, temps, made, preparing, operands, From, passes-all}
use Rattle.lending.proofs.Handing.{prepares, reads_all}
use Rattle.lending.proofs.Rules.{rule-ended, RuleOf, Passing, Left-over, Back, hands}
use Rattle.lending.proofs.Walks.{Facts, Hold, stated, told, states, calls, loops, runs_as, framed, stands}

-- what is done with what the rule hands back: further locals, the local that it goes to, and the statements from there
-- on
pub record Finish : Type 0 where
  pub own : List Ty
  pub to : ℕ
  pub then : Body

past-add : (τs : List Ty) (i j : ℕ) → j + past τs i ≡ past τs (j + i)
past-add [] i j = refl
past-add (τ ∷ τs) i j = one_more ∙ ap suc (past-add τs i j)
  where
    one_more : j + suc (past τs i) ≡ suc (j + past τs i)
    one_more = omega arith

-- ---- the signatures of the function and of its rule, which takes the records by value
abbrev pub slots : (F : Parameters) → List (Slot (lfts F))
slots F = given F (lfts F) (λ κs. κs) 0

abbrev pub rule-slots : (F : Parameters) → List (Slot (rule-lfts F))
rule-slots F = taken F (rule-lfts F) (λ κs. κs) 0

abbrev pub ended : RattleType → Parameters → Ended
ended R F = record {
  signature = record { lifetimes = lfts F; outlives = []; params = slots F; result = plain (λ _. R) };
  kept = all yes (slots F);
}

-- what the rule says, of its arguments, its result and the parameters at exit; and its contract
abbrev pub Said : RattleType → Parameters → Type 1
Said X F = (κs : Lfts (rule-lfts F)) → Args (rule-ended X (rule-slots F)).signature κs → X.Denot
    → AtExit (rule-ended X (rule-slots F)) κs → Facts

abbrev pub Rule : (X : RattleType) (F : Parameters) → Said X F → {M : Type 1} {𝓤 : Ura M} (𝓛 : Logic 𝓤)
    → Contract 𝓤
Rule X F said {𝓤 = 𝓤} 𝓛 = RuleOf X (rule-slots F) 𝓛 (λ κs xs r e. stated 𝓤 (said κs xs r e))

-- what is known once the rule has returned r, and has left ws of the parameters
module _ (X : RattleType) (F : Parameters) (said : Said X F) (κs : Lfts (lfts F)) (a : Denots (as-given F (side κs)))
  where
    abbrev pub Met : X.Denot → Left F (side κs) (side (down F κs)) a → Type 0
    Met r ws =
        let xs = pass F (side κs) (side (down F κs)) a in
        Hold (said (down F κs) xs r (at_exit (rule-ended X (rule-slots F)) (down F κs) xs ws))

-- what is bound at the function's exit, where the rule leaves ws and fs is stored
abbrev pub last : (R : RattleType) (F : Parameters) (κs : Lfts (lfts F)) (a : Args (ended R F).signature κs)
    → Left F (side κs) (side (down F κs)) a → Stored F → Lasts (ended R F) κs a
last R F κs a ws fs = lasting F (side κs) (side (down F κs)) a ws fs

module _ {R : RattleType} (PR : Plain R) (F : Parameters) (#rule : Callee) (T : Finish) where
  -- the local after the parameters', and the first of those that are made of them
  abbrev pub behind : ℕ → ℕ
  behind i = suc (past (locals F 0) i)

  abbrev made_at : ℕ
  made_at = behind (past T.own 0)

  -- the function's MIR
  abbrev pub function : Fn
  function = record {
    lifetimes = lfts F;
    outlives = [];
    ty_params = [];
    givens = 0;
    params = past (locals F 0) 0;
    locals = value PR.mir ∷ values (locals F 0) ++ (values T.own ++ (values (temps F) ++ []));
    body = preparing F 1 made_at (seq (call #rule (operands F 1 made_at) (place T.to [])) T.then);
  }

  module _ {M : Type 1} (𝓤 : Ura M) (H : Heap 𝓤) (l₀ : ℕ) (ls : Each ℕ (locals F 0)) (os : Each ℕ T.own)
      (ts : Each ℕ (temps F)) where
    abbrev pub environment : Env 𝓤 H
    environment = (PR.mir, l₀) ∷ env (locals F 0) ls ++ (env T.own os ++ (env (temps F) ts ++ []))

    parameters-at : From 𝓤 H environment 1 (env (locals F 0) ls ++ (env T.own os ++ (env (temps F) ts ++ [])))
    parameters-at = record {
      spots = λ j.
          let one_more : j + 1 ≡ suc j = omega arith in
          ap (λ (k : ℕ). spot_of 𝓤 H environment k) one_more;
    }

    made-there : From 𝓤 H environment made_at (env (temps F) ts ++ [])
    made-there = record {
      spots = λ j.
          let one_more : j + made_at ≡ suc (j + past (locals F 0) (past T.own 0)) = omega arith in
          let none_more : j + 0 ≡ j = omega arith in
          let others = past-add (locals F 0) (past T.own 0) j in
          let own = ap (past (locals F 0)) (past-add T.own 0 j ∙ ap (past T.own) none_more) in
          ap (λ (k : ℕ). spot_of 𝓤 H environment k) (one_more ∙ ap suc (others ∙ own))
          ∙ spot_past 𝓤 H (locals F 0) ls (env T.own os ++ (env (temps F) ts ++ [])) (past T.own j)
          ∙ spot_past 𝓤 H T.own os (env (temps F) ts ++ []) j;
    }

  module _ {M : Type 1} {𝓤 : Ura M} (𝓛 : Logic 𝓤) (c : Clauses 𝓤 (ended R F))
      (κs : Lfts (lfts F)) (qs : Shares (lfts F)) (a : Args (ended R F).signature κs) (g : (c κs a).ghost) where
    open 𝓛 use {H}

    abbrev s : Side (lfts F)
    s = side κs

    abbrev z : Side (rule-lfts F)
    z = side (down F κs)

    abbrev bound : (walk_of 𝓛 (ended R F) (stays (slots F)) c).Ghost
    bound = ((κs, qs, tt, a, spelt F s a), g)

    -- what goes to the rule, and what is left of it
    abbrev passing : SProp 𝓤
    passing = Passing (rule-slots F) 𝓛 (down F κs) (shares-down F qs) (pass F s z a) (handed F s z a)

    abbrev pub left_over : Left F s z a → SProp 𝓤
    left_over = Left-over (rule-slots F) 𝓛 (down F κs) (shares-down F qs) (pass F s z a)

    abbrev pub Post : Val → SProp 𝓤
    Post = (walk_of 𝓛 (ended R F) (stays (slots F)) c).post bound

    ends : (y : R.Denot) (u : Val) (ws : Left F s z a) (fs : Stored F)
        → ent 𝓤 (emp 𝓤) ((c κs a).ensures g y (at_exit (ended R F) κs a (last R F κs a ws fs)))
        → ent 𝓤 (⋆ 𝓛 (back 𝓤 F s qs a fs ∷ raw (rule-tokens 𝓛 F s qs) ∷ ‵ (rule-lasts 𝓛 F s z a ws)
        ∷ ‵ (R.own_val y (u ∷ [])) ∷ [])) (Post u)
    ends y u ws fs said =
        qed 𝓛 (back 𝓤 F s qs a fs ∷ raw (rule-tokens 𝓛 F s qs) ∷ ‵ (rule-lasts 𝓛 F s z a ws)
        ∷ ‵ (R.own_val y (u ∷ [])) ∷ []) ∵
        use3 𝓛 (raw (tokens 𝓛 F s qs) ⊛ ‵ (lasts 𝓛 F s z a ws fs)) (leaves 𝓛 F s z refl qs a ws fs) $
        split ! $ rewrite ! 1 (λ (P : Fml). ‵ P) (same-lasts κs (slots F) a (last R F κs a ws fs) (spelt F s a)) refl $
        suffices ! _
        (ends_at 𝓛 (ended R F) (stays (slots F)) c bound u y (last R F κs a ws fs)
        (fits κs (slots F) a (last R F κs a ws fs))) $
        states ! said $ done !

    -- the function's end: what the locals hold is freed
    module _ (l₀ : ℕ) (ls : Each ℕ (locals F 0)) (os : Each ℕ T.own) (ts : Each ℕ (temps F)) where
      abbrev E : Env 𝓤 H
      E = environment 𝓤 H l₀ ls os ts

      -- the parameters, what is made of them, and what lets the locals go
      abbrev pub parameters : Item 𝓤
      parameters = cells 𝓤 (locals F 0) ls (contents F s a)

      abbrev pub arguments : Item 𝓤
      arguments = cells 𝓤 (temps F) ts (made F s a)

      abbrev pub freedom : List (Item 𝓤)
      freedom = ‵ (fdies PR.mir l₀) ∷ dies 𝓤 (locals F 0) ls ∷ dies 𝓤 T.own os ∷ dies 𝓤 (temps F) ts ∷ []

      pub frees-locals : (y : R.Denot) (u : Val) (vs : Each Val T.own) (ws : Left F s z a) (fs : Stored F)
          → ent 𝓤 (emp 𝓤) ((c κs a).ensures g y (at_exit (ended R F) κs a (last R F κs a ws fs)))
          → Sq 𝓛 (‵ (R.own_val y (u ∷ []))
          ∷ raw (left_over ws)
          ∷ ‵ (cell PR.mir l₀ u) ∷ back 𝓤 F s qs a fs ∷ cells 𝓤 T.own os vs ∷ parameters ∷ arguments ∷ freedom)
          (frees E (prop (Post u)))
      frees-locals y u vs ws fs said =
          move ! (2 ∷ 7 ∷ 5 ∷ 8 ∷ 4 ∷ 9 ∷ 6 ∷ 10 ∷ []) $ frees-cell ! $
          frees_all ! (locals F 0) ls (contents F s a) (env T.own os ++ (env (temps F) ts ++ [])) $
          frees_all ! T.own os vs (env (temps F) ts ++ []) $ frees_all ! (temps F) ts (made F s a) [] $ free0 ! $
          -- [the numbers; what the rule leaves; what is back of the records]
          move ! (1 ∷ []) $
          use1 𝓛 (raw (rule-tokens 𝓛 F s qs) ⊛ ‵ (rule-lasts 𝓛 F s z a ws)) (id⊢ 𝓤 _) $ split ! $
          move ! (3 ∷ 0 ∷ 1 ∷ 2 ∷ []) $ by ! (ends y u ws fs said)

      -- what is had once the rule has returned
      abbrev pub Returned : List (Item 𝓤)
      Returned = ‵ (room PR.mir l₀) ∷ held 𝓤 F s qs a ∷ rooms 𝓤 T.own os ∷ parameters ∷ arguments ∷ freedom

    module _ (X : RattleType) (said : Said X F) where
      -- the walk, up to where the rule has returned
      walk : {C : Calls 𝓤 H} (Λ : Loops 𝓤 H) → FmC 𝓤 H 𝓛.laws C
          → Triple 𝓤 (C #rule) (Rule X F said 𝓛)
          → Are (as-given F s) (Ises (as-given F s)) a (spelt F s a)
          → ((l₀ : ℕ) (ls : Each ℕ (locals F 0)) (os : Each ℕ T.own) (ts : Each ℕ (temps F)) (v : Val)
          → Sq 𝓛 (raw (mean 𝓛 (Back 𝓤 X (Met X F said κs a) left_over v)) ∷ Returned l₀ ls os ts)
          (lands C Λ (E l₀ ls os ts) (place T.to []) v T.then (at_ret (E l₀ ls os ts) Post)))
          → ent 𝓤 (on_entry 𝓛 (ended R F).signature κs qs a (spelt F s a))
          (WpFn 𝓤 H C Λ function (flat (as-given F s) (spelt F s a)) Post)
      walk {C} Λ fm ruled are finish =
          via 𝓤 _ (enters 𝓛 F s qs a)
          (qed 𝓛 (loans 𝓤 F s qs a ∷ raw (rule-tokens 𝓛 F s qs) ∷ ‵ (rest F s a) ∷ []) ∵
          enter ! C Λ function (flat (as-given F s) (spelt F s a)) _ $
          alloc1 ! (λ l₀. alloc_all ! (locals F 0) (values T.own ++ (values (temps F) ++ [])) (λ ls.
          alloc_all ! T.own (values (temps F) ++ []) (λ os. alloc_all ! (temps F) [] (λ ts. alloc0 ! $ params1 ! $
          -- [rooms and dies of what is made of the parameters, of the further locals, of the parameters, of the result;
          -- the loans; the tokens; what goes to the rule]
          move ! (4 ∷ []) $ passes-all F s a ls (env T.own os ++ (env (temps F) ts ++ [])) are $
          move ! (0 ∷ 1 ∷ 8 ∷ []) $
          prepares 𝓛 (E l₀ ls os ts) (env T.own os ++ (env (temps F) ts ++ [])) [] F s qs a 1 made_at ls ts are
          (parameters-at 𝓤 H l₀ ls os ts) (made-there 𝓤 H l₀ ls os ts) (λ was.
          -- [the parameters; the arguments; what is held; dies of the arguments; the further locals; their dies; the
          -- parameters' dies; the result; its dies; the tokens; what goes to the rule]
          move ! (10 ∷ []) $
          use1 𝓛 (‵ (owns (as-taken F z) (pass F s z a) (handed F s z a))) (owned-by-rule 𝓛 F s z refl a was) $
          move ! (10 ∷ 0 ∷ []) $ join ! $ use1 𝓛 (raw passing) (id⊢ 𝓤 _) $
          move ! (0 ∷ 8 ∷ 3 ∷ 5 ∷ 1 ∷ 2 ∷ 9 ∷ 7 ∷ 6 ∷ 4 ∷ []) $
          calls_from ! fm (raw passing) _ _
          (hands X (rule-slots F) 𝓛 (λ κs xs r e. stated 𝓤 (said κs xs r e)) (down F κs) (shares-down F qs)
          (pass F s z a) (handed F s z a) (Met X F said κs a) (λ r ws. told 𝓤 (said _ _ r _)) fm #rule ruled)
          (reads_all 𝓛 _ (E l₀ ls os ts) (env T.own os ++ (env (temps F) ts ++ [])) [] F s z a 1 made_at ls ts
          (parameters-at 𝓤 H l₀ ls os ts) (made-there 𝓤 H l₀ ls os ts)
          (record { into = λ part. look_in ! 4 part }) (record { into = λ part. look_in ! 5 part }))
          (λ v. finish l₀ ls os ts v)))))))

      -- what is left to do once the rule has returned
      abbrev pub Finishes : Calls 𝓤 H → Loops 𝓤 H → Type 1
      Finishes C Λ = (l₀ : ℕ) (ls : Each ℕ (locals F 0)) (os : Each ℕ T.own) (ts : Each ℕ (temps F)) (v : Val)
          → Sq 𝓛 (raw (mean 𝓛 (Back 𝓤 X (Met X F said κs a) left_over v)) ∷ Returned l₀ ls os ts)
          (lands C Λ (E l₀ ls os ts) (place T.to []) v T.then (at_ret (E l₀ ls os ts) Post))

  pub lends : {M : Type 1} {𝓤 : Ura M} (𝓛 : Logic 𝓤) (𝓜 : Model 𝓤 𝓛.H) (𝓡 : Running 𝓤 𝓛.H 𝓜)
      (env : Routines) (#self : Callee) → Closed 𝓤 𝓛.H (calls 𝓛 𝓜 𝓡 env) (loops 𝓛 𝓜 𝓡 env) #self function
      → (X : RattleType) (said : Said X F) {rule : Routine} → env #rule ≡ rule
      → Triple 𝓤 (𝓡.run rule) (Rule X F said 𝓛)
      → (c : Clauses 𝓤 (ended R F))
      → ((κs : Lfts (lfts F)) (qs : Shares (lfts F)) (a : Args (ended R F).signature κs) (g : (c κs a).ghost)
      → Finishes 𝓛 c κs qs a g X said (calls 𝓛 𝓜 𝓡 env) (loops 𝓛 𝓜 𝓡 env))
      → Meets 𝓛 (ended R F).signature (𝓡.run (env #self)) (closing 𝓛 (ended R F) c)
  lends {𝓤 = 𝓤} 𝓛 𝓜 𝓡 env #self closed X said is-rule ruled c finishes =
      stands 𝓛 𝓜 𝓡 env (ended R F) (stays (slots F)) c #self function closed
      (walked 𝓛 (ended R F) (stays (slots F)) c (runs_as 𝓛 𝓜 𝓡 env function)
      (λ κs. spell F (side κs)) (λ κs. tell F (side κs))
      (λ κs qs bounds a g are. via 𝓤 _ (fst∗ 𝓤 _ ((c κs a).requires g))
      (walk 𝓛 c κs qs a g X said (loops 𝓛 𝓜 𝓡 env) (framed 𝓛 𝓜 𝓡 env)
      (cited 𝓤 𝓛.H (Rule X F said 𝓛) 𝓜 𝓡 env #rule _ is-rule ruled) are (finishes κs qs a g))))
      (go 𝓛 (slots F))
