-- From a walk of a function's MIR to its contract, and facts as clauses.
use mathlib.Core.List.{List}
use seplogic.Ra.Ura.{Ura}
use mir.Syntax.{Callee, Fn}
use base.Logic.{SProp, ent, sep, emp, via, id⊢, emp∗, comm∗, mono_l, mono_r}
use prog.Model.{Model}
use prog.Routine.{Env as Routines}
use prog.Wp.{Calls, Loops, WpFn, Closed}
use types.Logic.{Logic}
use contract.Monad.{Fun, fact, fact_i, fact_mono}
use contract.Running.{Running, tables, tables_of}
use types.Kit.{Item, Step, step, prop, ◌$◌, suffices}
use sound.WpLaws.{FmC, fm_of, WpFn-mono}
use denote.Triple.Spec.{Meets, triple_of}
use denote.Triple.Table.{entered}
use denote.Triple.Clauses.{Ended, Clauses, closing}
use denote.Triple.Walked.{needs, Stays, AllGo, Walks, walk_Meets}

-- ---- what an `ensures` states, where it holds of itself
module _ {M : Type 1} {𝓤 : Ura M} {𝓛 : Logic 𝓤} {K : Type 0} {Γ : List (Item 𝓤)} where
  pub states : K → {P Q : SProp 𝓤} → ent 𝓤 (emp 𝓤) Q → Step K 𝓛 Γ (prop P) Γ (prop (sep 𝓤 P Q))
  states t {P} {Q} holds =
      step (λ s. suffices t _ (via 𝓤 (sep 𝓤 Q P) (via 𝓤 _ (emp∗ 𝓤 P) (mono_l 𝓤 P holds)) (comm∗ 𝓤 Q P)) $ s)

-- ---- the facts that the clauses of an `ensures` state, one after the other
pub data Facts : Type 1 where
  fact_of : Type 0 → Facts
  ◌and◌ : Type 0 → Facts → Facts

infixr 20 ◌and◌
abbrev pub Hold : Facts → Type 0
Hold (fact_of φ) = φ
Hold (φ and f) = φ × Hold f

module _ {M : Type 1} (𝓤 : Ura M) where
  abbrev pub stated : Facts → SProp 𝓤
  stated (fact_of φ) = fact 𝓤 φ
  stated (φ and f) = sep 𝓤 (fact 𝓤 φ) (stated f)

  pub hold : (f : Facts) → Hold f → ent 𝓤 (emp 𝓤) (stated f)
  hold (fact_of φ) x = fact_i 𝓤 φ (emp 𝓤) x
  hold (φ and f) x =
      via 𝓤 (stated f) (hold f x.1)
      (via 𝓤 _ (emp∗ 𝓤 (stated f)) (mono_l 𝓤 (stated f) (fact_i 𝓤 φ (emp 𝓤) x.0)))

  pub told : (f : Facts) → ent 𝓤 (stated f) (fact 𝓤 (Hold f))
  told (fact_of φ) = id⊢ 𝓤 (fact 𝓤 φ)
  told (φ and f) =
      via 𝓤 (sep 𝓤 (fact 𝓤 φ) (fact 𝓤 (Hold f))) (mono_r 𝓤 (fact 𝓤 φ) (told f))
      (needs 𝓤 (Hold f) (fact 𝓤 φ) (λ y. fact_mono 𝓤 φ (φ × Hold f) (λ x. (x, y))))

-- ---- a walk of the function's MIR, over the tables of the functions that it calls, is a proof of the function
module _ {M : Type 1} {𝓤 : Ura M} (𝓛 : Logic 𝓤) (𝓜 : Model 𝓤 𝓛.H) (𝓡 : Running 𝓤 𝓛.H 𝓜)
    (env : Routines) where
  open 𝓛 use {H}

  abbrev pub calls : Calls 𝓤 H
  calls = (tables 𝓤 H 𝓜 𝓡 env).C

  abbrev pub loops : Loops 𝓤 H
  loops = (tables 𝓤 H 𝓜 𝓡 env).Λ

  abbrev pub runs_as : Fn → Fun 𝓤
  runs_as f = WpFn 𝓤 H calls loops f

  pub framed : FmC 𝓤 H 𝓛.laws calls
  unfolding tables_of
  framed = fm_of 𝓤 H 𝓛.laws (tables_of 𝓤 H 𝓜 (tables 𝓤 H 𝓜 𝓡 env))

  pub stands : (S : Ended) (hs : Stays S.signature.params S.kept) (c : Clauses 𝓤 S) (#self : Callee) (f : Fn)
      → Closed 𝓤 H calls loops #self f → Walks 𝓛 S hs (runs_as f) c
      → AllGo 𝓛 S.signature.lifetimes S.signature.params S.kept hs
      → Meets 𝓛 S.signature (calls #self) (closing 𝓛 S c)
  unfolding tables_of
  stands S hs c #self f closed walks go =
      entered 𝓤 H (triple_of 𝓛 S.signature (closing 𝓛 S c)) calls loops #self f closed
      (walk_Meets 𝓛 S hs go c (runs_as f)
      (WpFn-mono 𝓤 H 𝓛.laws (tables_of 𝓤 H 𝓜 (tables 𝓤 H 𝓜 𝓡 env)) f) walks)
