-- How a lending function hands its parameters on: their locals, the locals and statements that make the rule's
-- arguments of them, and the operands of the call.
use mathlib.Core.Path.{◌≡◌, refl, sym, ap, ◌∙◌}
use Prim.Native.Nat.{ℕ, zero, suc, ◌+◌}
use native.Mathlib.Nat.{zero-add}
use native.Mathlib.Omega.{arith}
use mathlib.Core.List.{[], ◌∷◌, ◌++◌, List}
use seplogic.Ra.Ura.{Ura}
use base.Fraction.{full_share}
use mir.Syntax.{named, erased, imm, mut, w8, Ty, ty_int, ty_ref, Opd as Operand, Body, place, deref, field, copy, rv_opd}
use mir.Syntax.{addr_of, aggregate, assign, seq}
use mir.Val.{Val, vptr}
use prog.Wp.{Heap, Calls, Loops, Env, spot_of}
use types.Logic.{Logic}
use contract.Lifetimes.{Shares}
use types.Kit.{Go, Item, Sq, Step, Goal, Post, step, runs, passes, ◌⊛◌, ◌$◌, !, move, split, split3, join}
use types.Run.{Reads, Opds, look, look_raw, init, stop, hop, fld, load, addr, of_opd, and_then, no_more, assigns}
use types.Run.{pass1, pass0}
use types.Part.{Part, agg, whole, sub, look_in}
use denote.RattleType.{Denots, flat}
use denote.Laws.{Are, Ises}
use denote.Builtin.{u8}
use denote.Memory.{pointee}
use denote.Slice.{slice_ty, slice_val, shr_slice_Lawful, mut_slice_Lawful}
use lib.ListN.{length}
use Rattle.lending.proofs.Locals.{found, Each, env, rooms, cells, in-first, in_rest}
use Rattle.lending.proofs.Loans.{loads, opens-lent}
use Rattle.lending.proofs.Parameters.{Parameters, none, datum, bytes, buffer, read, written, lfts, rule-lfts}
use Rattle.lending.proofs.Parameters.{Side, next, lft, as-given, as-taken, spelt, handed, Loaded, loans, held}

-- ---- the locals of the parameters, where the first lifetime has the number j, and what they hold
abbrev pub locals : Parameters → ℕ → List Ty
locals none j = []
locals (datum X PX F) j = PX.mir ∷ locals F j
locals (bytes F) j = slice_ty (ty_ref (named j) imm (ty_int w8)) ∷ locals F (suc j)
locals (buffer F) j = slice_ty (ty_ref (named j) mut (ty_int w8)) ∷ locals F (suc j)
locals (read X PX F) j = ty_ref (named j) imm (pointee X.written) ∷ locals F (suc j)
locals (written X PX F) j = ty_ref (named j) mut (pointee X.written) ∷ locals F (suc j)

abbrev pub contents : (F : Parameters) (s : Side (lfts F)) → Denots (as-given F s) → Each Val (locals F s.first)
contents none s a = tt
contents (datum X PX F) s a = (PX.val a.0, contents F s a.1)
contents (bytes F) s a = (slice_val a.0.ref_ptr (length a.0.now), contents F (next s) a.1)
contents (buffer F) s a = (slice_val a.0.ref_ptr (length a.0.now), contents F (next s) a.1)
contents (read X PX F) s a = (vptr a.0.ref_ptr.0 a.0.ref_ptr.1, contents F (next s) a.1)
contents (written X PX F) s a = (vptr a.0.ref_ptr.0 a.0.ref_ptr.1, contents F (next s) a.1)

-- ---- the locals that are made of them: a buffer is lent again, and a record that is lent is loaded
abbrev lent-bytes : Ty
lent-bytes = ty_ref erased mut (ty_int w8)

abbrev pub temps : Parameters → List Ty
temps none = []
temps (datum X PX F) = temps F
temps (bytes F) = temps F
temps (buffer F) = lent-bytes ∷ slice_ty lent-bytes ∷ temps F
temps (read X PX F) = PX.mir ∷ temps F
temps (written X PX F) = PX.mir ∷ temps F

abbrev pub made : (F : Parameters) (s : Side (lfts F)) → Denots (as-given F s) → Each Val (temps F)
made none s a = tt
made (datum X PX F) s a = made F s a.1
made (bytes F) s a = made F (next s) a.1
made (buffer F) s a =
    (vptr a.0.ref_ptr.0 a.0.ref_ptr.1, (slice_val a.0.ref_ptr (length a.0.now), made F (next s) a.1))
made (read X PX F) s a = (PX.val a.0.now, made F (next s) a.1)
made (written X PX F) s a = (PX.val a.0.now, made F (next s) a.1)

-- ---- the statements that make them, and the operands of the call, where the parameters' locals begin at i, and those
-- at t
abbrev pub preparing : Parameters → (i t : ℕ) → Body → Body
preparing none i t rest = rest
preparing (datum X PX F) i t rest = preparing F (suc i) t rest
preparing (bytes F) i t rest = preparing F (suc i) t rest
preparing (buffer F) i t rest =
    seq (assign (place t []) (addr_of (place i (field 0 ∷ deref (ty_int w8) ∷ []))))
    (seq (assign (place (suc t) []) (aggregate (copy (place t []) ∷ copy (place i (field 1 ∷ [])) ∷ [])))
    (preparing F (suc i) (suc (suc t)) rest))
preparing (read X PX F) i t rest =
    seq (assign (place t []) (rv_opd (copy (place i (deref PX.mir ∷ []))))) (preparing F (suc i) (suc t) rest)
preparing (written X PX F) i t rest =
    seq (assign (place t []) (rv_opd (copy (place i (deref PX.mir ∷ []))))) (preparing F (suc i) (suc t) rest)

abbrev pub operands : Parameters → (i t : ℕ) → List Operand
operands none i t = []
operands (datum X PX F) i t = copy (place i []) ∷ operands F (suc i) t
operands (bytes F) i t = copy (place i []) ∷ operands F (suc i) t
operands (buffer F) i t = copy (place (suc t) []) ∷ operands F (suc i) (suc (suc t))
operands (read X PX F) i t = copy (place t []) ∷ operands F (suc i) (suc t)
operands (written X PX F) i t = copy (place t []) ∷ operands F (suc i) (suc t)

-- ---- the parameters are passed to the function
module _ {M : Type 1} {𝓤 : Ura M} {𝓛 : Logic 𝓤} where
  open 𝓛 use {H}

  pub passes-all : (F : Parameters) {Γ : List (Item 𝓤)} (s : Side (lfts F)) (a : Denots (as-given F s))
      (ls : Each ℕ (locals F s.first)) (E : Env 𝓤 H) {g : Goal 𝓤 H}
      → Are (as-given F s) (Ises (as-given F s)) a (spelt F s a)
      → Step (Go {0}) 𝓛 (cells 𝓤 (locals F s.first) ls (contents F s a) ∷ Γ) g (rooms 𝓤 (locals F s.first) ls ∷ Γ)
      (passes (env (locals F s.first) ls ++ E) (flat (as-given F s) (spelt F s a)) g)
  passes-all none s a ls E are = pass0 !
  passes-all (datum X PX F) s a ls E are =
      step (λ k. split ! $ pass1 ! (init ! 0 refl (PX.typed 𝓛 a.0 _ are.0)) $ move ! (1 ∷ []) $
      passes-all F s a.1 ls.1 E are.1 $ move ! (1 ∷ 0 ∷ []) $ join ! $ k)
  passes-all (bytes F) s a ls E are =
      step (λ k. split ! $
      pass1 ! (init ! 0 refl ((shr_slice_Lawful 𝓛 (named s.first) (lft s) u8).typed a.0 _ are.0).0) $
      move ! (1 ∷ []) $ passes-all F (next s) a.1 ls.1 E are.1 $ move ! (1 ∷ 0 ∷ []) $ join ! $ k)
  passes-all (buffer F) s a ls E are =
      step (λ k. split ! $
      pass1 ! (init ! 0 refl ((mut_slice_Lawful 𝓛 (named s.first) (lft s) u8).typed a.0 _ are.0).0) $
      move ! (1 ∷ []) $ passes-all F (next s) a.1 ls.1 E are.1 $ move ! (1 ∷ 0 ∷ []) $ join ! $ k)
  passes-all (read X PX F) s a ls E are =
      step (λ k. split ! $ pass1 ! (init ! 0 refl (tt, tt)) $ move ! (1 ∷ []) $
      passes-all F (next s) a.1 ls.1 E are.1 $ move ! (1 ∷ 0 ∷ []) $ join ! $ k)
  passes-all (written X PX F) s a ls E are =
      step (λ k. split ! $ pass1 ! (init ! 0 refl (tt, tt)) $ move ! (1 ∷ []) $
      passes-all F (next s) a.1 ls.1 E are.1 $ move ! (1 ∷ 0 ∷ []) $ join ! $ k)

-- ---- locals that stand one after the other, from the local i on
pub record From {M : Type 1} (𝓤 : Ura M) (H : Heap 𝓤) (E : Env 𝓤 H) (i : ℕ) (E' : Env 𝓤 H) : Type 0 where
  pub spots : (j : ℕ) → spot_of 𝓤 H E (j + i) ≡ spot_of 𝓤 H E' j

module _ {M : Type 1} {𝓤 : Ura M} {H : Heap 𝓤} where
  first-at : {E E' : Env 𝓤 H} {i : ℕ} → From 𝓤 H E i E' → spot_of 𝓤 H E i ≡ spot_of 𝓤 H E' 0
  first-at {E} {i = i} at = ap (λ (k : ℕ). spot_of 𝓤 H E k) (sym (zero-add i)) ∙ at.spots 0

  rest_at : {E E' : Env 𝓤 H} {e : Ty × ℕ} {i : ℕ} → From 𝓤 H E i (e ∷ E') → From 𝓤 H E (suc i) E'
  rest_at {E} {i = i} at = record {
    spots = λ j.
        let next-number : j + suc i ≡ suc j + i = omega arith in
        ap (λ (k : ℕ). spot_of 𝓤 H E k) next-number ∙ at.spots (suc j);
  }

-- ---- the rule's arguments are made
module _ {M : Type 1} {𝓤 : Ura M} (𝓛 : Logic 𝓤) {C : Calls 𝓤 𝓛.H} {Λ : Loops 𝓤 𝓛.H}
    (E E₁ E₂ : Env 𝓤 𝓛.H) {rest : Body} {q : Post 𝓤 𝓛.H} where
  open 𝓛 use {H}

  pub prepares : (F : Parameters) {Γ : List (Item 𝓤)} (s : Side (lfts F)) (qs : Shares (lfts F))
      (a : Denots (as-given F s)) (i t : ℕ) (ls : Each ℕ (locals F s.first)) (ts : Each ℕ (temps F))
      → Are (as-given F s) (Ises (as-given F s)) a (spelt F s a)
      → From 𝓤 H E i (env (locals F s.first) ls ++ E₁) → From 𝓤 H E t (env (temps F) ts ++ E₂)
      → (Loaded F s a
      → Sq 𝓛 (cells 𝓤 (locals F s.first) ls (contents F s a) ∷ cells 𝓤 (temps F) ts (made F s a)
      ∷ held 𝓤 F s qs a ∷ Γ) (runs C Λ E rest q))
      → Sq 𝓛 (cells 𝓤 (locals F s.first) ls (contents F s a) ∷ rooms 𝓤 (temps F) ts ∷ loans 𝓤 F s qs a ∷ Γ)
      (runs C Λ E (preparing F i t rest) q)
  prepares none s qs a i t ls ts are at_p at-t k = k tt
  prepares (datum X PX F) s qs a i t ls ts are at_p at-t k =
      split ! $ move ! (1 ∷ 2 ∷ 3 ∷ []) $
      prepares F s qs a.1 (suc i) t ls.1 ts are.1 (rest_at at_p) at-t (λ was.
      move ! (3 ∷ 0 ∷ []) $ join ! $ k was)
  prepares (bytes F) s qs a i t ls ts are at_p at-t k =
      split ! $ move ! (1 ∷ 2 ∷ 3 ∷ []) $
      prepares F (next s) qs.1 a.1 (suc i) t ls.1 ts are.1 (rest_at at_p) at-t (λ was.
      move ! (3 ∷ 0 ∷ []) $ join ! $ k was)
  prepares (buffer F) s qs a i t ls ts are at_p at-t k =
      let at_again = rest_at at-t in
      split ! $ move ! (2 ∷ []) $ split ! $ move ! (1 ∷ []) $ split ! $
      -- [the slice that is lent again; the others; its pointer; the parameter; the others; the loans; …]
      assigns ! (addr ! (found ! (first-at at_p) (fld ! refl (hop ! (look_in ! 3 (sub ! 0 refl (whole !))) (stop !)))))
      (found ! (first-at at-t) (stop !)) (init ! 2 refl (tt, tt)) $
      assigns ! (agg ! (and_then ! (load ! (found ! (first-at at-t) (stop !)) (look ! 2 refl))
      (and_then ! (load ! (found ! (first-at at_p) (fld ! refl (stop !))) (look_in ! 3 (sub ! 1 refl (whole !))))
      (no_more !))))
      (found ! (first-at at_again) (stop !)) (init ! 0 refl (tt, (tt, (record { fits = are.0.0.1.0 }, tt)))) $
      move ! (4 ∷ 1 ∷ 5 ∷ []) $
      prepares F (next s) qs.1 a.1 (suc i) (suc (suc t)) ls.1 ts.1.1 are.1 (rest_at at_p)
      (rest_at at_again) (λ was.
      move ! (3 ∷ 1 ∷ []) $ join ! $ move ! (3 ∷ 0 ∷ []) $ join ! $ move ! (3 ∷ 1 ∷ []) $ join ! $ k was)
  prepares (read X PX F) s qs a i t ls ts are at_p at-t k =
      split ! $ move ! (2 ∷ []) $ split ! $ move ! (4 ∷ []) $ split ! $ split ! $
      -- [the shared borrow; its token; the others' loans; the record; the others; the pointer; the others; …]
      move ! (0 ∷ 1 ∷ 3 ∷ 5 ∷ []) $
      loads PX 𝓤 (lft s) qs.0 a.0 𝓛 (first-at at_p) (first-at at-t) (λ is.
      move ! (5 ∷ 4 ∷ 3 ∷ []) $
      prepares F (next s) qs.1 a.1 (suc i) (suc t) ls.1 ts.1 are.1 (rest_at at_p) (rest_at at-t)
      (λ was. move ! (3 ∷ 2 ∷ []) $ join ! $ move ! (3 ∷ 2 ∷ []) $ join ! $ move ! (3 ∷ 2 ∷ []) $ join ! $ k (is, was)))
  prepares (written X PX F) s qs a i t ls ts are at_p at-t k =
      split ! $ move ! (2 ∷ []) $ split ! $ move ! (4 ∷ []) $ split ! $ split3 ! $
      -- [obs; the borrow; the token; the others' loans; the record; the others; the pointer; the others; …]
      opens-lent PX 𝓤 (lft s) qs.0 a.0 𝓛 tt (λ is.
      assigns ! (of_opd ! (load ! (found ! (first-at at_p) (hop ! (look ! 7 refl) (stop !))) (look_raw ! 0 refl)))
      (found ! (first-at at-t) (stop !)) (init ! 5 refl (PX.typed 𝓛 a.0.now _ is)) $
      move ! (2 ∷ 3 ∷ []) $ join ! $ move ! (2 ∷ 0 ∷ []) $ join ! $ move ! (1 ∷ 0 ∷ []) $ join ! $
      -- [the open loan; the others' loans; the record; the others; the pointer; the others; …]
      move ! (5 ∷ 3 ∷ 1 ∷ []) $
      prepares F (next s) qs.1 a.1 (suc i) (suc t) ls.1 ts.1 are.1 (rest_at at_p) (rest_at at-t)
      (λ was. move ! (3 ∷ 2 ∷ []) $ join ! $ move ! (3 ∷ 2 ∷ []) $ join ! $ move ! (3 ∷ 2 ∷ []) $ join ! $ k (is, was)))

-- ---- and handed on
module _ {M : Type 1} {𝓤 : Ura M} (𝓛 : Logic 𝓤) (Γ : List (Item 𝓤)) where
  -- what is within an item can be read
  open 𝓛 use {H}

  pub record Within (I : Item 𝓤) : Type 2 where
    pub into : {τ : Ty} {l : ℕ} {v : Val} {back : Val → Item 𝓤} → Part (Go {0}) 𝓛 I full_share τ l zero v back
        → Reads (Go {0}) 𝓛 Γ τ l zero v

  rest-within : {I J : Item 𝓤} → Within (I ⊛ J) → Within J
  rest-within at = record { into = λ part. at.into (in_rest ! part) }

  module _ (E E₁ E₂ : Env 𝓤 H) where
    pub reads_all : (F : Parameters) (s : Side (lfts F)) (z : Side (rule-lfts F)) (a : Denots (as-given F s)) (i t : ℕ)
        (ls : Each ℕ (locals F s.first)) (ts : Each ℕ (temps F))
        → From 𝓤 H E i (env (locals F s.first) ls ++ E₁) → From 𝓤 H E t (env (temps F) ts ++ E₂)
        → Within (cells 𝓤 (locals F s.first) ls (contents F s a)) → Within (cells 𝓤 (temps F) ts (made F s a))
        → Opds (Go {0}) 𝓛 Γ E (operands F i t) (flat (as-taken F z) (handed F s z a))
    reads_all none s z a i t ls ts at_p at-t in_p in-t = no_more !
    reads_all (datum X PX F) s z a i t ls ts at_p at-t in_p in-t =
        and_then ! (load ! (found ! (first-at at_p) (stop !)) (in_p.into (in-first !)))
        (reads_all F s z a.1 (suc i) t ls.1 ts (rest_at at_p) at-t (rest-within in_p) in-t)
    reads_all (bytes F) s z a i t ls ts at_p at-t in_p in-t =
        and_then ! (load ! (found ! (first-at at_p) (stop !)) (in_p.into (in-first !)))
        (reads_all F (next s) (next z) a.1 (suc i) t ls.1 ts (rest_at at_p) at-t (rest-within in_p) in-t)
    reads_all (buffer F) s z a i t ls ts at_p at-t in_p in-t =
        let at_again = rest_at at-t in
        and_then ! (load ! (found ! (first-at at_again) (stop !)) ((rest-within in-t).into (in-first !)))
        (reads_all F (next s) (next z) a.1 (suc i) (suc (suc t)) ls.1 ts.1.1 (rest_at at_p)
        (rest_at at_again) (rest-within in_p) (rest-within (rest-within in-t)))
    reads_all (read X PX F) s z a i t ls ts at_p at-t in_p in-t =
        and_then ! (load ! (found ! (first-at at-t) (stop !)) (in-t.into (in-first !)))
        (reads_all F (next s) z a.1 (suc i) (suc t) ls.1 ts.1 (rest_at at_p) (rest_at at-t)
        (rest-within in_p) (rest-within in-t))
    reads_all (written X PX F) s z a i t ls ts at_p at-t in_p in-t =
        and_then ! (load ! (found ! (first-at at-t) (stop !)) (in-t.into (in-first !)))
        (reads_all F (next s) z a.1 (suc i) (suc t) ls.1 ts.1 (rest_at at_p) (rest_at at-t)
        (rest-within in_p) (rest-within in-t))
