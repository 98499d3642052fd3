-- A function whose parameters are only read, but for buffers, and whose result is its rule's.
use mathlib.Core.Path.{◌≡◌, refl}
use mathlib.Core.List.{[]}
use seplogic.Ra.Ura.{Ura}
use mir.Syntax.{Callee, return}
use base.Logic.{ent, emp}
use prog.Model.{Model}
use prog.Routine.{Routine, Env as Routines}
use prog.Wp.{Closed}
use types.Logic.{Logic}
use contract.Running.{Running}
use contract.Lifetimes.{Lfts}
use types.Kit.{Item, ◌$◌, !, rewrite}
use denote.RattleType.{RattleType}
use denote.Triple.Statement.{Triple}
use denote.Triple.Entry.{Args}
use denote.Triple.Spec.{Meets}
use denote.Triple.Clauses.{Clauses, at_exit, closing}
use Rattle.lending.proofs.PlainData.{Plain}
use Rattle.lending.proofs.Parameters.{Parameters, ReadOnly, nothing_stored, same-held, lfts, down, side, Left}
use Rattle.lending.proofs.Rules.{results}
use Rattle.lending.proofs.Walks.{calls, loops}
use Rattle.lending.proofs.Lends.{Finish, Said, Rule, Met, ended, function, last, left_over, frees-locals, lends}

abbrev handing-on : Finish
handing-on = record { own = []; to = 0; then = return }

module _ {R : RattleType} (PR : Plain R) (F : Parameters) (only : ReadOnly F) (#rule : Callee) (said : Said R F) where
  -- what the function's clauses ask, of its result and of what the rule leaves of the parameters
  abbrev pub Follows : {M : Type 1} (𝓤 : Ura M) → Clauses 𝓤 (ended R F) → Type 1
  Follows 𝓤 c =
      (κs : Lfts (lfts F)) (a : Args (ended R F).signature κs) (g : (c κs a).ghost) (r : R.Denot)
      (ws : Left F (side κs) (side (down F κs)) a) → Met R F said κs a r ws
      → ent 𝓤 (emp 𝓤) ((c κs a).ensures g r (at_exit (ended R F) κs a (last R F κs a ws (nothing_stored F only))))

  pub reads : {M : Type 1} {𝓤 : Ura M} (𝓛 : Logic 𝓤) (𝓜 : Model 𝓤 𝓛.H) (𝓡 : Running 𝓤 𝓛.H 𝓜)
      (env : Routines) (#self : Callee)
      → Closed 𝓤 𝓛.H (calls 𝓛 𝓜 𝓡 env) (loops 𝓛 𝓜 𝓡 env) #self (function PR F #rule handing-on)
      → {rule : Routine} → env #rule ≡ rule → Triple 𝓤 (𝓡.run rule) (Rule R F said 𝓛)
      → (c : Clauses 𝓤 (ended R F)) → Follows 𝓤 c
      → Meets 𝓛 (ended R F).signature (𝓡.run (env #self)) (closing 𝓛 (ended R F) c)
  reads {𝓤 = 𝓤} 𝓛 𝓜 𝓡 env #self closed is-rule ruled c follows =
      lends PR F #rule handing-on 𝓛 𝓜 𝓡 env #self closed R said is-rule ruled c (λ κs qs a g l₀ ls os ts v.
      results PR 𝓛 (Met R F said κs a) (left_over PR F #rule handing-on 𝓛 c κs qs a g) v
      (λ r ws met. rewrite ! 3 (λ (i : Item 𝓤). i) (same-held 𝓤 F only (side κs) qs a) refl $
      frees-locals PR F #rule handing-on 𝓛 c κs qs a g l₀ ls os ts r v tt ws (nothing_stored F only)
      (follows κs a g r ws met)))
