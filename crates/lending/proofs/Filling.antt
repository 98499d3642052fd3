-- A function whose only parameter is a record that is lent to be written: it stores what its rule makes, whatever was
-- there.
use mathlib.Core.Path.{◌≡◌, refl, ap}
use mathlib.Core.List.{[], ◌∷◌, List}
use seplogic.Ra.Ura.{Ura}
use mir.Syntax.{Callee, Fn, named, mut, ty_unit, ty_ref, place, deref, copy, opd_unit, rv_opd, assign, call, seq, return}
use mir.Val.{Val, vptr, vunit}
use base.Logic.{SProp, ent, emp, via, fst∗, id⊢}
use base.Fml.{ftrue, fres}
use prog.Model.{Model}
use prog.Routine.{Routine, Env as Routines}
use prog.Wp.{Calls, Loops, WpFn, Closed}
use types.Logic.{Logic}
use contract.Monad.{fact}
use contract.Running.{Running}
use contract.Lifetimes.{Lfts, Shares}
use types.Kit.{Item, ⋆, ‵, raw, ◌⊛◌, ◌$◌, ◌∵◌, !, qed, by, move, keep, drop, use1, split, split3, join, pick}
use types.Kit.{fjoin, rewrite, suffices, await, done}
use types.Run.{look, init, store_raw, stop, hop, from, load, of_opd, unit_lit, no_more, assigns, land, returns}
use types.Run.{enter, alloc1, alloc0, params1, pass1, pass0, free0}
use sound.WpLaws.{FmC}
use denote.RattleType.{RattleType}
use denote.Laws.{Is, shows}
use denote.Memory.{pointee}
use denote.Plain.{Nothing, Nothing-Makes}
use denote.Steps.{only, owned, facts, heard, nothing}
use denote.Triple.Statement.{Contract, Triple}
use denote.Triple.Call.{calls_from}
use denote.Triple.Entry.{Args, on_entry}
use denote.Triple.Spec.{Meets}
use denote.Triple.Table.{cited}
use denote.Triple.Clauses.{Clauses, at_exit, closing}
use denote.Triple.Walked.{walk_of, ends_at, walked}
use Rattle.lending.proofs.PlainData.{Plain, spelled}
use Rattle.lending.proofs.Locals.{value, cell, frees-cell}
use Rattle.lending.proofs.Loans.{shut, seen, borrow, token, opens-lent, closes-lent}
use Rattle.lending.proofs.Parameters.{Parameters, none, written, side, spell, tell, spelt, stays, fits, go}
use Rattle.lending.proofs.Parameters.{enters}
use Rattle.lending.proofs.Rules.{Ensures, RuleOf, Passing, Left-over, Back, hands}
use Rattle.lending.proofs.Walks.{states, calls, loops, runs_as, framed, stands}
use Rattle.lending.proofs.Lends.{slots, ended}

module _ {T : RattleType} (PT : Plain T) (#rule : Callee) (fresh : T.Denot) where
  abbrev pub F : Parameters
  F = written T PT none

  -- the function's MIR
  abbrev pub function : Fn
  function = record {
    lifetimes = 1;
    outlives = [];
    ty_params = [];
    givens = 0;
    params = 1;
    locals =
        value ty_unit ∷ value (ty_ref (named 0) mut (pointee T.written)) ∷ value PT.mir ∷ [];
    body =
        seq (call #rule [] (place 2 []))
        (seq (assign (place 1 (deref PT.mir ∷ [])) (rv_opd (copy (place 2 []))))
        (seq (assign (place 0 []) (rv_opd opd_unit)) return));
  }

  module _ {M : Type 1} {𝓤 : Ura M} (𝓛 : Logic 𝓤) where
    open 𝓛 use {H}

    abbrev Says : Ensures T {n = 0} [] 𝓤
    Says κs a r e = fact 𝓤 (r ≡ fresh)

    abbrev pub Rule : Contract 𝓤
    Rule = RuleOf T {n = 0} [] 𝓛 Says

    -- what the function's clauses ask
    abbrev pub Follows : Clauses 𝓤 (ended Nothing F) → Type 1
    Follows c =
        (κs : Lfts 1) (x : Args (ended Nothing F).signature κs) (g : (c κs x).ghost)
        → ent 𝓤 (emp 𝓤) ((c κs x).ensures g tt (at_exit (ended Nothing F) κs x (fresh, tt)))

    module _ (c : Clauses 𝓤 (ended Nothing F)) (follows : Follows c) (κs : Lfts 1) (qs : Shares 1)
        (x : Args (ended Nothing F).signature κs) (g : (c κs x).ghost) where
      abbrev bound : (walk_of 𝓛 (ended Nothing F) (stays (slots F)) c).Ghost
      bound = ((κs, qs, tt, x, spelt F (side κs) x), g)

      abbrev Post : Val → SProp 𝓤
      Post = (walk_of 𝓛 (ended Nothing F) (stays (slots F)) c).post bound

      abbrev Alone : SProp 𝓤
      Alone = Passing {n = 0} [] 𝓛 tt tt tt tt

      abbrev left : Unit {0} → SProp 𝓤
      left = Left-over {n = 0} [] 𝓛 tt tt tt

      abbrev seen_as : T.Denot → Item 𝓤
      seen_as = seen PT 𝓤 κs.0 qs.0 x.0

      abbrev lent_again : List (Item 𝓤)
      lent_again = borrow PT 𝓤 κs.0 qs.0 x.0 ∷ token PT 𝓤 κs.0 qs.0 x.0 ∷ []

      ends : ent 𝓤 (⋆ 𝓛 (seen_as fresh ∷ lent_again)) (Post vunit)
      ends =
          qed 𝓛 (seen_as fresh ∷ lent_again) ∵
          use1 𝓛 (‵ (fres x.0.ghost_name (T.coded.code fresh)))
          (𝓛.names.obs-res x.0.ghost_name (T.coded.code fresh)) $
          suffices ! _
          (ends_at 𝓛 (ended Nothing F) (stays (slots F)) c bound vunit tt (fresh, tt)
          (fits κs (slots F) x (fresh, tt))) $ states ! (follows κs x g) $
          -- [what says the last value; the borrow; the token]
          nothing ! $ move ! (3 ∷ 0 ∷ []) $ join ! $ nothing ! $ move ! (2 ∷ 3 ∷ []) $ fjoin ! $ fjoin ! $
          owned ! Nothing (Is Nothing) (Nothing-Makes 𝓛) tt _ refl $ move ! (2 ∷ 1 ∷ 0 ∷ []) $
          keep ! (0 ∷ 1 ∷ 2 ∷ []) $ done !

      walk : {C : Calls 𝓤 H} (Λ : Loops 𝓤 H) → FmC 𝓤 H 𝓛.laws C → Triple 𝓤 (C #rule) Rule
          → ent 𝓤 (on_entry 𝓛 (ended Nothing F).signature κs qs x (spelt F (side κs) x))
          (WpFn 𝓤 H C Λ function (vptr x.0.ref_ptr.0 x.0.ref_ptr.1 ∷ []) Post)
      walk {C} Λ fm ruled =
          via 𝓤 _ (enters 𝓛 F (side κs) qs x)
          (qed 𝓛 ((shut PT 𝓤 κs.0 qs.0 x.0 x.0.now ⊛ ‵ ftrue) ∷ raw (emp 𝓤) ∷ ‵ ftrue ∷ []) ∵
          keep ! (0 ∷ []) $ split ! $ split3 ! $
          enter ! C Λ function (vptr x.0.ref_ptr.0 x.0.ref_ptr.1 ∷ []) _ $
          alloc1 ! (λ l₀. alloc1 ! (λ l₁. alloc1 ! (λ l₂. alloc0 ! $ params1 ! $
          pass1 ! (init ! 2 refl (tt, tt)) $ pass0 ! $
          nothing ! $ nothing ! $ join ! $ use1 𝓛 (raw Alone) (id⊢ 𝓤 _) $
          calls_from ! fm (raw Alone) _ _
          (hands T {n = 0} [] 𝓛 Says tt tt tt tt (λ r ws. r ≡ fresh) (λ r ws. id⊢ 𝓤 _) fm #rule ruled)
          (no_more !) (λ v.
          use1 𝓛 (Back 𝓤 T (λ r ws. r ≡ fresh) left v) (id⊢ 𝓤 _) $ await ! tt $ pick ! (λ r. pick ! (λ ws.
          split3 ! $ move ! (1 ∷ []) $ heard ! (r ≡ fresh) (λ e. move ! (1 ∷ []) $ drop ! $
          facts ! T (Is T) (shows 𝓛 T) r (v ∷ []) (λ is.
          -- [_2; dies; _1; dies; _0; dies; obs; the borrow; the token; …]
          land ! (from ! (stop !)) (init ! 0 refl (PT.typed 𝓛 r v is)) $
          rewrite ! 0 (λ (u : Val). ‵ (cell PT.mir l₂ u)) (ap only (PT.tells r _ is)) refl $
          move ! (6 ∷ 7 ∷ 8 ∷ []) $ opens-lent PT 𝓤 κs.0 qs.0 x.0 𝓛 tt (λ _.
          -- [the record; the open borrow; obs; auth; _2; dies; _1; dies; _0; dies; …]
          assigns ! (of_opd ! (load ! (from ! (stop !)) (look ! 4 refl))) (from ! (hop ! (look ! 6 refl) (stop !)))
          (store_raw ! 0 refl (PT.typed 𝓛 r _ (spelled PT r v is))) $
          closes-lent PT 𝓤 κs.0 qs.0 x.0 𝓛 tt r (spelled PT r v is) (
          assigns ! (of_opd ! (unit_lit !)) (from ! (stop !)) (init ! 7 refl (tt, tt)) $ returns ! (look ! 7 refl) $
          move ! (7 ∷ 8 ∷ []) $ frees-cell ! $ move ! (5 ∷ 6 ∷ []) $ frees-cell ! $ move ! (3 ∷ 4 ∷ []) $
          frees-cell ! $ free0 ! $ rewrite ! 0 seen_as e refl $ keep ! (0 ∷ 1 ∷ 2 ∷ []) $ by ! ends)))))))))))

  pub fills : {M : Type 1} {𝓤 : Ura M} (𝓛 : Logic 𝓤) (𝓜 : Model 𝓤 𝓛.H) (𝓡 : Running 𝓤 𝓛.H 𝓜)
      (env : Routines) (#self : Callee) → Closed 𝓤 𝓛.H (calls 𝓛 𝓜 𝓡 env) (loops 𝓛 𝓜 𝓡 env) #self function
      → {rule : Routine} → env #rule ≡ rule → Triple 𝓤 (𝓡.run rule) (Rule 𝓛)
      → (c : Clauses 𝓤 (ended Nothing F)) → Follows 𝓛 c
      → Meets 𝓛 (ended Nothing F).signature (𝓡.run (env #self)) (closing 𝓛 (ended Nothing F) c)
  fills {𝓤 = 𝓤} 𝓛 𝓜 𝓡 env #self closed is-rule ruled c follows =
      stands 𝓛 𝓜 𝓡 env (ended Nothing F) (stays (slots F)) c #self function closed
      (walked 𝓛 (ended Nothing F) (stays (slots F)) c (runs_as 𝓛 𝓜 𝓡 env function)
      (λ κs. spell F (side κs)) (λ κs. tell F (side κs))
      (λ κs qs bounds x g are. via 𝓤 _ (fst∗ 𝓤 _ ((c κs x).requires g))
      (walk 𝓛 c follows κs qs x g (loops 𝓛 𝓜 𝓡 env) (framed 𝓛 𝓜 𝓡 env)
      (cited 𝓤 𝓛.H (Rule 𝓛) 𝓜 𝓡 env #rule _ is-rule ruled))))
      (go 𝓛 (slots F))
