-- A function whose first parameter is a record that is lent to be written, and the others only read: it stores the
-- record that its rule hands back, and makes numbers of the rule's answer.
use mathlib.Core.Path.{◌≡◌, refl}
use Prim.Native.Nat.{ℕ, zero, suc}
use mathlib.Core.List.{[], ◌∷◌, ◌++◌, List}
use seplogic.Ra.Ura.{Ura}
use mir.Syntax.{Ty, Callee, Place, Body, place, deref, field, copy, rv_opd, assign, call, seq, return}
use mir.Val.{Val}
use base.Logic.{SProp, ent, emp, id⊢}
use prog.Model.{Model}
use prog.Routine.{Routine, Env as Routines}
use prog.Wp.{Calls, Loops, Env, Closed, spot_of}
use types.Logic.{Logic}
use contract.Running.{Running}
use contract.Lifetimes.{Lfts, Shares}
use types.Kit.{Go, Item, Sq, Goal, mean, prop, runs, lands, frees, at_ret, ‵, raw, ◌$◌, !, move, use1, split}
use types.Kit.{split3, join, pick, rewrite, await}
use types.Run.{Opd, look, init, store_raw, stop, hop, fld, from, load, of_opd, assigns, land}
use types.Part.{whole, sub, look_in}
use sound.WpLaws.{FmC}
use denote.RattleType.{RattleType}
use denote.Laws.{Is, shows}
use denote.Steps.{facts, heard}
use denote.Triple.Statement.{Triple}
use denote.Triple.Entry.{Args}
use denote.Triple.Spec.{Meets}
use denote.Triple.Table.{cited}
use denote.Triple.Clauses.{Clauses, at_exit, closing}
use Rattle.lending.proofs.PlainData.{Plain, Way, once, by-case, Outcome, Both-are, outcome-mir, outcome-val}
use Rattle.lending.proofs.Locals.{room, cell, found, Each, env, past, spot_past, rooms, cells, in-first}
use Rattle.lending.proofs.Locals.{matching, matches}
use Rattle.lending.proofs.Loans.{there, opened, seen, known, borrow, token, closes-lent}
use Rattle.lending.proofs.Parameters.{Parameters, written, ReadOnly, nothing_stored, same-held, lfts, down, next}
use Rattle.lending.proofs.Parameters.{side, Left}
use Rattle.lending.proofs.Handing.{locals, temps}
use Rattle.lending.proofs.Rules.{Back, Answers, makes-numbers}
use Rattle.lending.proofs.Walks.{calls, loops, framed}
use Rattle.lending.proofs.Lends.{Finish, Said, Rule, Met, ended, function, environment, last, left_over, Post}
use Rattle.lending.proofs.Lends.{parameters, Returned, frees-locals, lends}

-- ---- the answer has a local of its own where the outcome does not keep it
abbrev answer-locals : {N : RattleType} {PN : Plain N} → Way PN → List Ty
answer-locals once = []
answer-locals {PN = PN} (by-case e) = PN.mir ∷ []

abbrev answer-values : {N : RattleType} {PN : Plain N} (way : Way PN) → N.Denot → Each Val (answer-locals way)
answer-values once x = tt
answer-values {PN = PN} (by-case e) x = (PN.val x, tt)

module _ {T N R : RattleType} {PT : Plain T} {PN : Plain N} (O : Outcome PT PN) (PR : Plain R)
    (numbers : N.Denot → R.Denot) (#rule #numbers : Callee) (way : Way PN) (others : Parameters)
    (only : ReadOnly others) where
  abbrev pub F : Parameters
  F = written T PT others

  abbrev outcome : Ty
  outcome = outcome-mir PT PN O.name

  -- the locals of the outcome and of the answer
  abbrev p : ℕ
  p = suc (past (locals F 0) 0)

  abbrev a : ℕ
  a = suc (past (locals F 0) 1)

  abbrev keeping : Body
  keeping = assign (place 1 (deref PT.mir ∷ [])) (rv_opd (copy (place p (field 0 ∷ []))))

  abbrev answering : Place → Body
  answering q = seq (call #numbers (copy q ∷ []) (place 0 [])) return

  -- the record is stored once; or in each arm of a `match` on the answer
  abbrev finishing : Way PN → Body
  finishing once = seq keeping (answering (place p (field 1 ∷ [])))
  finishing (by-case e) =
      seq (assign (place a []) (rv_opd (copy (place p (field 1 ∷ [])))))
      (seq (matching e a keeping) (answering (place a [])))

  abbrev pub storing : Finish
  storing = record { own = outcome ∷ answer-locals way; to = p; then = finishing way }

  module _ (said : Said O.row F) where
    -- what the function's clauses ask, of its result and of the record that is stored
    abbrev pub Follows : {M : Type 1} (𝓤 : Ura M) → Clauses 𝓤 (ended R F) → Type 1
    Follows 𝓤 c =
        (κs : Lfts (lfts F)) (x : Args (ended R F).signature κs) (g : (c κs x).ghost) (y : R.Denot)
        (r : O.row.Denot) (ws : Left F (side κs) (side (down F κs)) x)
        → Met O.row F said κs x r ws → y ≡ numbers (O.answer r)
        → ent 𝓤 (emp 𝓤) ((c κs x).ensures g y (at_exit (ended R F) κs x
        (last R F κs x ws (O.next r, nothing_stored others only))))

    module _ {M : Type 1} {𝓤 : Ura M} (𝓛 : Logic 𝓤) (c : Clauses 𝓤 (ended R F))
        (follows : Follows 𝓤 c) (κs : Lfts (lfts F)) (qs : Shares (lfts F)) (x : Args (ended R F).signature κs)
        (g : (c κs x).ghost) {C : Calls 𝓤 𝓛.H} (Λ : Loops 𝓤 𝓛.H) (fm : FmC 𝓤 𝓛.H 𝓛.laws C)
        (numbered : Triple 𝓤 (C #numbers) (Answers PN PR numbers 𝓛))
        (l₀ : ℕ) (ls : Each ℕ (locals F 0)) (os : Each ℕ storing.own) (ts : Each ℕ (temps F)) where
      open 𝓛 use {H}

      abbrev E : Env 𝓤 H
      E = environment PR F #rule storing 𝓤 H l₀ ls os ts

      abbrev Kf : Val → SProp 𝓤
      Kf = Post PR F #rule storing 𝓛 c κs qs x g

      abbrev B : Left F (side κs) (side (down F κs)) x → SProp 𝓤
      B = left_over PR F #rule storing 𝓛 c κs qs x g

      abbrev Runs : Body → Goal 𝓤 H
      Runs b = runs C Λ E b (at_ret E Kf)

      at_p : spot_of 𝓤 H E p ≡ (outcome, os.0, zero)
      at_p = spot_past 𝓤 H (locals F 0) ls (env storing.own os ++ (env (temps F) ts ++ [])) 0

      at_a : spot_of 𝓤 H E a ≡ spot_of 𝓤 H (env (answer-locals way) os.1 ++ (env (temps F) ts ++ [])) 0
      at_a = spot_past 𝓤 H (locals F 0) ls (env storing.own os ++ (env (temps F) ts ++ [])) 1

      -- the record that is lent: in memory, where it is m, and as it was
      abbrev memory : T.Denot → Item 𝓤
      memory = there PT 𝓤 κs.0 qs.0 x.0

      abbrev old : List (Item 𝓤)
      old =
          opened PT 𝓤 κs.0 qs.0 x.0 ∷ seen PT 𝓤 κs.0 qs.0 x.0 x.0.now
          ∷ known PT 𝓤 κs.0 qs.0 x.0 ∷ []

      abbrev new : T.Denot → List (Item 𝓤)
      new m =
          seen PT 𝓤 κs.0 qs.0 x.0 m ∷ borrow PT 𝓤 κs.0 qs.0 x.0
          ∷ token PT 𝓤 κs.0 qs.0 x.0 ∷ []

      abbrev pointers : Item 𝓤
      pointers = parameters PR F #rule storing 𝓛 c κs qs x g l₀ ls os ts

      abbrev handed-back : O.row.Denot → Item 𝓤
      handed-back r = ‵ (cell outcome os.0 (outcome-val PT PN (O.next r) (O.answer r)))

      abbrev unanswered : Item 𝓤
      unanswered = ‵ (room PR.mir l₀)

      -- what is had once the outcome is there, and once its record is stored
      abbrev Handed : O.row.Denot → List (Item 𝓤) → List (Item 𝓤)
      Handed r Γ = memory x.0.now ∷ old ++ (handed-back r ∷ pointers ∷ unanswered ∷ Γ)

      abbrev Kept : O.row.Denot → List (Item 𝓤) → List (Item 𝓤)
      Kept r Γ = new (O.next r) ++ (handed-back r ∷ pointers ∷ Γ)

      -- the end, once the numbers are there
      abbrev Ends : O.row.Denot → List (Item 𝓤) → Type 1
      Ends r Γ = (y : R.Denot) (u : Val) → y ≡ numbers (O.answer r)
          → Sq 𝓛 (‵ (R.own_val y (u ∷ [])) ∷ ‵ (cell PR.mir l₀ u) ∷ Kept r Γ) (frees E (prop (Kf u)))

      -- the record of the outcome is stored, the loan is shut, and the answer, which is at q, is made numbers
      keeps : {Γ : List (Item 𝓤)} {q : Place} (r : O.row.Denot) → Both-are PT PN (O.next r) (O.answer r)
          → ((i : Item 𝓤) → Opd (Go {0}) 𝓛 (i ∷ unanswered ∷ Kept r Γ) E (copy q) (PN.val (O.answer r)))
          → Ends r Γ → Sq 𝓛 (Handed r Γ) (Runs (seq keeping (answering q)))
      keeps r are reads ends =
          -- [the record; the open borrow; obs; auth; the outcome; the parameters; the result; …]
          assigns ! (of_opd ! (load ! (found ! at_p (fld ! refl (stop !))) (look_in ! 4 (sub ! 0 refl (whole !)))))
          (from ! (hop ! (look_in ! 5 (in-first !)) (stop !)))
          (store_raw ! 0 refl (PT.typed 𝓛 (O.next r) _ are.0)) $
          closes-lent PT 𝓤 κs.0 qs.0 x.0 𝓛 tt (O.next r) are.0 (
          move ! (5 ∷ []) $
          makes-numbers PN PR numbers 𝓛 (O.answer r) are.1 fm numbered (reads _) ends)

      finishes : {Γ : List (Item 𝓤)} (w : Way PN) (ls : Each ℕ (answer-locals w)) (r : O.row.Denot)
          → Both-are PT PN (O.next r) (O.answer r)
          → spot_of 𝓤 H E a ≡ spot_of 𝓤 H (env (answer-locals w) ls ++ (env (temps F) ts ++ [])) 0
          → Ends r (cells 𝓤 (answer-locals w) ls (answer-values w (O.answer r)) ∷ Γ)
          → Sq 𝓛 (Handed r (rooms 𝓤 (answer-locals w) ls ∷ Γ)) (Runs (finishing w))
      finishes once ls r are at ends =
          keeps r are
          (λ _. load ! (found ! at_p (fld ! refl (stop !))) (look_in ! 5 (sub ! 1 refl (whole !)))) ends
      finishes (by-case e) ls r are at ends =
          move ! (7 ∷ []) $ split ! $
          assigns ! (of_opd ! (load ! (found ! at_p (fld ! refl (stop !))) (look_in ! 6 (sub ! 1 refl (whole !)))))
          (found ! at (stop !)) (init ! 0 refl (PN.typed 𝓛 (O.answer r) _ are.1)) $
          move ! (2 ∷ 3 ∷ 4 ∷ 5 ∷ 6 ∷ 7 ∷ 8 ∷ []) $ matches ! e (O.answer r) 7 at refl $
          keeps r are (λ _. load ! (found ! at (stop !)) (look ! 7 refl)) (λ y u e.
          move ! (7 ∷ 8 ∷ []) $ join ! $ move ! (1 ∷ 2 ∷ 3 ∷ 4 ∷ 5 ∷ 6 ∷ 7 ∷ []) $ ends y u e)

      pub stores : (v : Val)
          → Sq 𝓛 (raw (mean 𝓛 (Back 𝓤 O.row (Met O.row F said κs x) B v))
          ∷ Returned PR F #rule storing 𝓛 c κs qs x g l₀ ls os ts)
          (lands C Λ E (place p []) v (finishing way) (at_ret E Kf))
      stores v =
          use1 𝓛 (Back 𝓤 O.row (Met O.row F said κs x) B v) (id⊢ 𝓤 _) $ await ! tt $ pick ! (λ r. pick ! (λ ws.
          split3 ! $ move ! (1 ∷ []) $ heard ! (Met O.row F said κs x r ws) (λ met.
          facts ! O.row (Is O.row) (shows 𝓛 O.row) r (v ∷ []) (λ is.
          -- [what the rule leaves; the result; what is held; the further locals; the parameters; the arguments; …]
          move ! (3 ∷ []) $ split ! $ land ! (found ! at_p (stop !)) (init ! 0 refl (O.typed 𝓛 r v is)) $
          rewrite ! 0 (λ (u : Val). ‵ (cell outcome os.0 u)) (O.tells r v is) refl $
          move ! (4 ∷ []) $ split ! $ split3 ! $ move ! (2 ∷ []) $ split ! $
          -- [obs; auth; the record; the open borrow; the others' tokens; the outcome; the answer; what the rule
          -- leaves; the result; the parameters; the arguments; …]
          move ! (2 ∷ 3 ∷ 0 ∷ 1 ∷ 5 ∷ 9 ∷ 8 ∷ 6 ∷ []) $
          finishes way os.1 r (O.parts r v is) at_a (λ y u e.
          -- [the numbers; the result; obs; the borrow; the token; the outcome; the parameters; the answer; the
          -- others' tokens; what the rule leaves; the arguments; …]
          rewrite ! 8 (λ (i : Item 𝓤). i) (same-held 𝓤 others only (next (side κs)) qs.1 x.1) refl $
          move ! (3 ∷ 4 ∷ []) $ join ! $ move ! (3 ∷ 0 ∷ []) $ join ! $ move ! (0 ∷ 6 ∷ []) $ join ! $
          move ! (3 ∷ 5 ∷ []) $ join ! $ move ! (2 ∷ 5 ∷ 3 ∷ 1 ∷ 0 ∷ 4 ∷ []) $
          frees-locals PR F #rule storing 𝓛 c κs qs x g l₀ ls os ts y u
          (outcome-val PT PN (O.next r) (O.answer r), answer-values way (O.answer r)) ws
          (O.next r, nothing_stored others only) (follows κs x g y r ws met e))))))

    pub writes : {M : Type 1} {𝓤 : Ura M} (𝓛 : Logic 𝓤) (𝓜 : Model 𝓤 𝓛.H) (𝓡 : Running 𝓤 𝓛.H 𝓜)
        (env : Routines) (#self : Callee)
        → Closed 𝓤 𝓛.H (calls 𝓛 𝓜 𝓡 env) (loops 𝓛 𝓜 𝓡 env) #self (function PR F #rule storing)
        → {rule : Routine} → env #rule ≡ rule → Triple 𝓤 (𝓡.run rule) (Rule O.row F said 𝓛)
        → {maker : Routine} → env #numbers ≡ maker → Triple 𝓤 (𝓡.run maker) (Answers PN PR numbers 𝓛)
        → (c : Clauses 𝓤 (ended R F)) → Follows 𝓤 c
        → Meets 𝓛 (ended R F).signature (𝓡.run (env #self)) (closing 𝓛 (ended R F) c)
    writes {𝓤 = 𝓤} 𝓛 𝓜 𝓡 env #self closed is-rule ruled is-numbers numbered c follows =
        lends PR F #rule storing 𝓛 𝓜 𝓡 env #self closed O.row said is-rule ruled c (λ κs qs x g.
        stores 𝓛 c follows κs qs x g (loops 𝓛 𝓜 𝓡 env) (framed 𝓛 𝓜 𝓡 env)
        (cited 𝓤 𝓛.H (Answers PN PR numbers 𝓛) 𝓜 𝓡 env #numbers _ is-numbers numbered))
