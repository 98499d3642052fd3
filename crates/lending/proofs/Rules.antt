-- What a lending function calls, its rule or the function that makes numbers of an answer: the contract, what it is
-- handed and hands back, and its call as the last statement.
use mathlib.Core.Path.{◌≡◌, refl}
use Prim.Native.Nat.{ℕ}
use mathlib.Core.List.{[], ◌∷◌, List}
use seplogic.Ra.Ura.{Ura}
use mir.Syntax.{Callee, Place, place, copy, call, seq, return}
use mir.Val.{Val}
use base.Logic.{SProp, ent, sep, emp, ex, via, ex_e, ex_i, id⊢, mono_r}
use prog.Wp.{Calls, Loops, Env}
use types.Logic.{Logic, sem}
use contract.Monad.{Fun, fact}
use contract.Lifetimes.{Lfts, Shares, toks}
use types.Kit.{Go, Item, mean, Sq, prop, runs, lands, frees, at_ret, ‵, raw, ◌⊛◌, some, later, ◌$◌, ◌∵◌, !, qed}
use types.Kit.{move, drop, use0, use1, split, split3, join, pick, fjoin, frame, await, updating, now as at_once, show}
use types.Kit.{done}
use types.Run.{Opd, look, init, stop, from, and_then, no_more, land, returns}
use sound.WpLaws.{FmC, fm→mono_c}
use denote.RattleType.{RattleType, Denots, Valss, flat, owns}
use denote.Laws.{Is, shows}
use denote.Signature.{Slot, plain, types_at}
use denote.Steps.{owned, peeks, heard, nothing}
use denote.Triple.Statement.{Contract, Triple}
use denote.Triple.Call.{calls_from}
use denote.Triple.Entry.{Args}
use denote.Triple.Spec.{triple_of}
use denote.Triple.Clauses.{Ended, Clauses, Lasts, AtExit, at_exit, closing, ensured, lasts}
use denote.Triple.End.{Fins, all, lasts_of}
use denote.Exit.{yes}
use Rattle.lending.proofs.PlainData.{Plain}
use Rattle.lending.proofs.Locals.{room, cell}

-- ---- what a call that has returned v leaves: a result r and last values ws of the parameters that meet Met, beside B
module _ {M : Type 1} (𝓤 : Ura M) (X : RattleType) {Ws : Type 0} (Met : X.Denot → Ws → Type 0) (B : Ws → SProp 𝓤) where
  abbrev pub Back : Val → Item 𝓤
  Back v =
      later (some (λ (r : X.Denot). some (λ (ws : Ws).
      ‵ (X.own_val r (v ∷ [])) ⊛ raw (fact 𝓤 (Met r ws)) ⊛ raw (B ws))))

  -- the call, on vs, takes P and leaves that
  abbrev pub Hands : (𝓛 : Logic 𝓤) → Fun 𝓤 → List Val → SProp 𝓤 → Type 1
  Hands 𝓛 run vs P = ent 𝓤 P (run vs (λ v. mean 𝓛 (Back v)))

-- ---- what goes to it with the parameters Fs: the tokens, which come back, and what they own; and what comes back
module _ {n : ℕ} (Fs : List (Slot n)) {M : Type 1} {𝓤 : Ura M} (𝓛 : Logic 𝓤) (κs : Lfts n) (qs : Shares n)
    (xs : Denots (types_at Fs κs)) where
  abbrev pub Passing : Valss (types_at Fs κs) → SProp 𝓤
  Passing vss = sep 𝓤 (toks 𝓛 n κs qs) (sem 𝓛 (owns (types_at Fs κs) xs vss))

  abbrev pub Left-over : Fins κs Fs (all yes Fs) xs → SProp 𝓤
  Left-over ws = sep 𝓤 (toks 𝓛 n κs qs) (sem 𝓛 (lasts_of κs Fs (all yes Fs) xs ws))

-- ---- its contract: it takes the parameters Fs, and ensures what `Says` says
module _ (X : RattleType) {n : ℕ} (Fs : List (Slot n)) where
  abbrev pub rule-ended : Ended
  rule-ended = record {
    signature = record { lifetimes = n; outlives = []; params = Fs; result = plain (λ _. X) };
    kept = all yes Fs;
  }

  -- what it may say: of its arguments, its result, and the parameters at exit
  abbrev pub Ensures : {M : Type 1} → Ura M → Type 2
  Ensures 𝓤 = (κs : Lfts n) → Args rule-ended.signature κs → X.Denot → AtExit rule-ended κs → SProp 𝓤

  module _ {M : Type 1} {𝓤 : Ura M} (𝓛 : Logic 𝓤) (Says : Ensures 𝓤) where
    open 𝓛 use {H}

    abbrev rule-clauses : Clauses 𝓤 rule-ended
    rule-clauses κs a = record { ghost = Unit {0}; requires = λ _. emp 𝓤; ensures = λ _. Says κs a }

    abbrev pub RuleOf : Contract 𝓤
    RuleOf = triple_of 𝓛 rule-ended.signature (closing 𝓛 rule-ended rule-clauses)

    -- its call, with the parameters xs
    module _ (κs : Lfts n) (qs : Shares n) (xs : Denots (types_at Fs κs)) (vss : Valss (types_at Fs κs))
      where
        abbrev to-rule : RuleOf.Ghost
        to-rule = ((κs, qs, tt, xs, vss), tt)

        abbrev Tokens : SProp 𝓤
        Tokens = toks 𝓛 n κs qs

        abbrev Passes : SProp 𝓤
        Passes = Passing Fs 𝓛 κs qs xs vss

        abbrev Leftover : Lasts rule-ended κs xs → SProp 𝓤
        Leftover = Left-over Fs 𝓛 κs qs xs

        goes : ent 𝓤 Passes (RuleOf.pre to-rule)
        goes = qed 𝓛 (raw Tokens ∷ ‵ (owns (types_at Fs κs) xs vss) ∷ []) ∵ join ! $ frame ! $ done !

        -- what it leaves by its contract, once it has returned u
        abbrev Ensured : X.Denot → SProp 𝓤
        Ensured = ensured 𝓛 rule-ended rule-clauses κs xs tt

        abbrev Returns : Val → Item 𝓤
        Returns u = later (some (λ (r : X.Denot). (raw Tokens ⊛ ‵ (X.own_val r (u ∷ []))) ⊛ raw (Ensured r)))

        -- it leaves a result that meets Met, where it says so
        module _ (Met : X.Denot → Lasts rule-ended κs xs → Type 0)
            (says : (r : X.Denot) (ws : Lasts rule-ended κs xs)
            → ent 𝓤 (Says κs xs r (at_exit rule-ended κs xs ws)) (fact 𝓤 (Met r ws))) where
          abbrev Told : X.Denot → Lasts rule-ended κs xs → Item 𝓤
          Told r ws = ‵ (lasts rule-ended κs xs ws) ⊛ raw (fact 𝓤 (Met r ws))

          told : (r : X.Denot) → ent 𝓤 (Ensured r) (mean 𝓛 (some (Told r)))
          told r = ex_e 𝓤 _ (λ ws.
              via 𝓤 _ (mono_r 𝓤 (sem 𝓛 (lasts rule-ended κs xs ws)) (says r ws))
              (ex_i 𝓤 (λ (ws : Lasts rule-ended κs xs). mean 𝓛 (Told r ws)) ws))

          abbrev Leaves : Val → X.Denot → Lasts rule-ended κs xs → SProp 𝓤
          Leaves u r ws = sep 𝓤 (sem 𝓛 (X.own_val r (u ∷ []))) (sep 𝓤 (fact 𝓤 (Met r ws)) (Leftover ws))

          comes : (u : Val) → ent 𝓤 (RuleOf.post to-rule u) (mean 𝓛 (Back 𝓤 X Met Leftover u))
          comes u =
              qed 𝓛 (Returns u ∷ []) ∵ updating ! $ await ! tt $ pick ! (λ r.
              split ! $ split ! $ move ! (2 ∷ []) $ use1 𝓛 (some (Told r)) (told r) $ pick ! (λ ws. split ! $
              -- [the last values; what is met; the tokens; the result]
              move ! (3 ∷ 1 ∷ 2 ∷ 0 ∷ []) $ at_once ! $ show ! (λ (r : X.Denot). ex 𝓤 (Leaves u r)) r $
              show ! (Leaves u r) ws $ done !))

          pub hands : {C : Calls 𝓤 H} → FmC 𝓤 H 𝓛.laws C → (#rule : Callee) → Triple 𝓤 (C #rule) RuleOf
              → Hands 𝓤 X Met Leftover 𝓛 (C #rule) (flat (types_at Fs κs) vss) Passes
          hands {C} fm #rule met =
              via 𝓤 _ goes (via 𝓤 _ (met to-rule) (fm→mono_c 𝓤 H 𝓛.laws C fm #rule _ _ _ comes))

-- ---- the result of a call that is the last statement: it is the function's
module _ {R : RattleType} (PR : Plain R) {M : Type 1} {𝓤 : Ura M} (𝓛 : Logic 𝓤)
    {Ws : Type 0} (Met : R.Denot → Ws → Type 0) (B : Ws → SProp 𝓤) where
  open 𝓛 use {H}

  pub results : {Γ : List (Item 𝓤)} {C : Calls 𝓤 H} {Λ : Loops 𝓤 H} {E : Env 𝓤 H} {l : ℕ} {Kf : Val → SProp 𝓤} (u : Val)
      → ((r : R.Denot) (ws : Ws) → Met r ws
      → Sq 𝓛 (‵ (R.own_val r (u ∷ [])) ∷ raw (B ws) ∷ ‵ (cell PR.mir l u) ∷ Γ) (frees ((PR.mir, l) ∷ E) (prop (Kf u))))
      → Sq 𝓛 (raw (mean 𝓛 (Back 𝓤 R Met B u)) ∷ ‵ (room PR.mir l) ∷ Γ)
      (lands C Λ ((PR.mir, l) ∷ E) (place 0 []) u return (at_ret ((PR.mir, l) ∷ E) Kf))
  results u k =
      use1 𝓛 (Back 𝓤 R Met B u) (id⊢ 𝓤 _) $ await ! tt $ pick ! (λ r. pick ! (λ ws. split3 ! $ move ! (1 ∷ []) $
      heard ! (Met r ws) (λ met. peeks ! R (Is R) (shows 𝓛 R) r (u ∷ []) (λ is.
      land ! (from ! (stop !)) (init ! 2 refl (PR.typed 𝓛 r u is)) $ returns ! (look ! 2 refl) $ k r ws met))))

-- ---- the function that makes numbers of an answer: its contract, and its call as the last statement
module _ {N R : RattleType} (PN : Plain N) (PR : Plain R) (numbers : N.Denot → R.Denot) {M : Type 1} {𝓤 : Ura M}
    (𝓛 : Logic 𝓤) where
  open 𝓛 use {H}

  abbrev Says : Ensures R {n = 0} (plain (λ _. N) ∷ []) 𝓤
  Says κs a r e = fact 𝓤 (r ≡ numbers a.0)

  abbrev pub Answers : Contract 𝓤
  Answers = RuleOf R {n = 0} (plain (λ _. N) ∷ []) 𝓛 Says

  module _ (a : N.Denot) (is : Is N a (PN.val a ∷ [])) where
    -- nothing goes with the answer
    abbrev Alone : SProp 𝓤
    Alone = Passing {n = 0} (plain (λ _. N) ∷ []) 𝓛 tt tt (a, tt) (PN.val a ∷ [], tt)

    alone : ent 𝓤 (emp 𝓤) Alone
    alone =
        qed 𝓛 [] ∵ nothing ! $ owned ! N (Is N) (PN.makes 𝓛) a _ is $ fjoin ! $ nothing ! $ done !

    pub makes-numbers : {Γ : List (Item 𝓤)} {C : Calls 𝓤 H} {Λ : Loops 𝓤 H} {E : Env 𝓤 H} {l : ℕ} {p : Place}
        {#numbers : Callee} {Kf : Val → SProp 𝓤} → FmC 𝓤 H 𝓛.laws C → Triple 𝓤 (C #numbers) Answers
        → Opd (Go {0}) 𝓛 (raw Alone ∷ ‵ (room PR.mir l) ∷ Γ) ((PR.mir, l) ∷ E) (copy p) (PN.val a)
        → ((r : R.Denot) (u : Val) → r ≡ numbers a
        → Sq 𝓛 (‵ (R.own_val r (u ∷ [])) ∷ ‵ (cell PR.mir l u) ∷ Γ) (frees ((PR.mir, l) ∷ E) (prop (Kf u))))
        → Sq 𝓛 (‵ (room PR.mir l) ∷ Γ)
        (runs C Λ ((PR.mir, l) ∷ E) (seq (call #numbers (copy p ∷ []) (place 0 [])) return)
        (at_ret ((PR.mir, l) ∷ E) Kf))
    makes-numbers {#numbers = #numbers} fm numbered reads k =
        use0 𝓛 (raw Alone) alone $
        calls_from ! fm (raw Alone) _ _
        (hands R {n = 0} (plain (λ _. N) ∷ []) 𝓛 Says tt tt (a, tt) (PN.val a ∷ [], tt) (λ r ws. r ≡ numbers a)
        (λ r ws. id⊢ 𝓤 _) fm #numbers numbered)
        (and_then ! reads (no_more !)) (λ u.
        results PR 𝓛 (λ r ws. r ≡ numbers a)
        (Left-over {n = 0} (plain (λ _. N) ∷ []) 𝓛 tt tt (a, tt)) u (λ r ws e. move ! (1 ∷ []) $ drop ! $ k r u e))
