-- What the walks of the lending functions ask of a type: of plain data, of an enum that is matched, and of an outcome.
use mathlib.Core.Path.{◌≡◌, refl, ap, subst, ◌∙◌}
use Prim.Native.Nat.{ℕ, suc}
use mathlib.Core.List.{[], ◌∷◌}
use seplogic.Ra.Ura.{Ura}
use mir.Syntax.{Sym, Ty, Tys, Tyss, Width, ty_int, ty_struct, ty_enum, tcons, tnil, ttcons, ttnil}
use mir.Syntax.{Body, Arms, arm, no_default}
use mir.Val.{Val, Vals, of_list, vint, vstruct, vcons, vnil, has_ty, WT}
use lib.Dec.{T as Holds}
use base.Logic.{via, emp∗, mono_l}
use types.Logic.{Logic, sem}
use types.Match.{live, covers}
use contract.Monad.{fact_use}
use denote.RattleType.{RattleType}
use denote.Exit.{yes, unchanged}
use denote.Laws.{Is, Tells, Makes, Copy, shows, valss}
use denote.Opens.{Opens}
use denote.Copied.{uint_Copied}
use denote.Plain.{UInt, uint_Tells, uint_Makes, uint_Lawful}
use denote.Steps.{only}
use denote.Struct.Struct.{layout, Plains, AreAll}
use denote.Struct.Declared as struct
use denote.Struct.Laws as structs
use denote.Enum.Enum.{Few, Plainss, layouts, fields_of, layout as enum-layout}
use denote.Enum.Declared as enum
use denote.Enum.Laws as enums

-- plain data: one machine value, which the datum tells, and owned for nothing
pub record Plain (X : RattleType) : Type 2 where
  pub mir : Ty
  pub mir_is : X.mir ≡ mir ∷ []
  pub val : X.Denot → Val
  pub tells : Tells X (Is X) (λ x. val x ∷ [])
  pub typed : {M : Type 1} {𝓤 : Ura M} (𝓛 : Logic 𝓤) →
      (x : X.Denot) (v : Val) → Is X x (v ∷ []) → Holds (has_ty mir v) × WT v
  pub makes : {M : Type 1} {𝓤 : Ura M} (𝓛 : Logic 𝓤) → Makes 𝓛 X (Is X)
  pub opens : {M : Type 1} {𝓤 : Ura M} (𝓛 : Logic 𝓤) → Opens 𝓛 X
  pub still : X.exit yes ≡ unchanged

-- what it owns can be had twice
pub twice : {X : RattleType} → Plain X → {M : Type 1} {𝓤 : Ura M} (𝓛 : Logic 𝓤) →
    Copy 𝓛 X
twice {X} PX {𝓤 = 𝓤} 𝓛 = record {
  twice = λ x vs.
      let own = sem 𝓛 (X.own_val x vs) in
      fact_use 𝓤 (Is X x vs) (shows 𝓛 X x vs) (λ is.
      via 𝓤 _ (emp∗ 𝓤 own) (mono_l 𝓤 own (PX.makes 𝓛 x vs is)));
}

pub spelled : {X : RattleType} (PX : Plain X) (x : X.Denot) (v : Val) → Is X x (v ∷ []) → Is X x (PX.val x ∷ [])
spelled {X} PX x v is = subst (Is X x) (PX.tells x (v ∷ []) is) is

abbrev pub plain-uint : (w : Width) → Plain (UInt w)
plain-uint w = record {
  mir = ty_int w;
  mir_is = refl;
  val = vint w;
  tells = uint_Tells w;
  typed = λ 𝓛 x v is. ((uint_Lawful 𝓛 w).typed x (v ∷ []) is).0;
  makes = λ 𝓛. uint_Makes 𝓛 w;
  opens = λ 𝓛. (uint_Copied 𝓛 w).opens;
  still = refl;
}

abbrev pub plain-struct : (S : struct.Declared) → structs.Laws S → Plains (struct.fields S)
    → structs.Copyables S.parts → Plain (struct.row S)
plain-struct S laws plain copy = record {
  mir = layout (struct.shape S);
  mir_is = refl;
  val = structs.val S laws;
  tells = structs.tells S laws;
  typed = λ 𝓛 x v is. ((structs.lawful S laws 𝓛).typed x (v ∷ []) is).0;
  makes = λ 𝓛. structs.makes S plain 𝓛;
  opens = λ 𝓛. (structs.copied S copy 𝓛).opens;
  still = structs.still S copy yes;
}

abbrev pub plain-enum : (S : enum.Declared) → enums.Laws S → Few (enum.shape S) → Plainss (enum.variants S)
    → enums.Copyabless S.parts → Plain (enum.row S)
plain-enum S laws few plain copy = record {
  mir = enum-layout (enum.shape S);
  mir_is = refl;
  val = enums.val S laws;
  tells = enums.tells S laws;
  typed = λ 𝓛 x v is. ((enums.lawful S laws 𝓛 few).typed x (v ∷ []) is).0;
  makes = λ 𝓛. enums.makes S plain 𝓛;
  opens = λ 𝓛. (enums.copied S copy 𝓛).opens;
  still = enums.still S copy yes;
}

-- the arms of a `match` on an enum, one for each variant, counted from i, with one statement in all of them
abbrev pub arms : ℕ → Tyss → Body → Arms
arms i ttnil s = no_default
arms i (ttcons τs τss) s = arm (i ∷ []) s (arms (suc i) τss s)

-- they leave no variant out, which computes where the variants are written out
abbrev Covered : Tyss → Type 0
Covered τss = (s : Body) → Holds (covers τss 0 (arms 0 τss s))

-- an enum that is matched: its type, of a first variant and others, and a value's tag and fields
pub record Tagged {X : Type 0} (mir : Ty) (val : X → Val) : Type 0 where
  pub name : Sym
  pub first : Tys
  pub others : Tyss
  pub tag : X → ℕ
  pub fields : X → Vals
  pub mir_is : mir ≡ ty_enum name (ttcons first others)
  pub val_is : (x : X) → val x ≡ live (tag x) (fields x)
  pub covered : Covered (ttcons first others)

abbrev pub tagged-enum : (S : enum.Declared) (laws : enums.Laws S) {first : Tys} {others : Tyss}
    → layouts (enum.variants S) ≡ ttcons first others → Covered (ttcons first others)
    → Tagged (enum-layout (enum.shape S)) (enums.val S laws)
tagged-enum S laws {first} {others} same covered = record {
  name = S.name;
  first = first;
  others = others;
  tag = enum.tag_of S;
  fields = λ x. of_list (fields_of (enum.variants S) (enums.spellss S.parts laws) (S.to x));
  mir_is = ap (ty_enum S.name) same;
  val_is = λ x. refl;
  covered = covered;
}

-- how the record is stored: once, or in each arm of a `match` on the answer
pub data Way {X : RattleType} (PX : Plain X) : Type 2 where
  once : Way PX
  by-case : Tagged PX.mir PX.val → Way PX

-- an outcome: a struct of the next record and an answer
module _ {T N : RattleType} (PT : Plain T) (PN : Plain N) where
  abbrev pub outcome-mir : Sym → Ty
  outcome-mir name = ty_struct name (tcons PT.mir (tcons PN.mir tnil))

  abbrev pub outcome-val : T.Denot → N.Denot → Val
  outcome-val m a = vstruct (vcons (PT.val m) (vcons (PN.val a) vnil))

  abbrev pub Both-are : T.Denot → N.Denot → Type 0
  Both-are m a = Is T m (PT.val m ∷ []) × Is N a (PN.val a ∷ [])

  pub record Outcome : Type 2 where
    pub row : RattleType
    pub name : Sym
    pub next : row.Denot → T.Denot
    pub answer : row.Denot → N.Denot
    pub tells : (r : row.Denot) (v : Val) → Is row r (v ∷ []) → v ≡ outcome-val (next r) (answer r)
    pub typed : {M : Type 1} {𝓤 : Ura M} (𝓛 : Logic 𝓤) →
        (r : row.Denot) (v : Val) → Is row r (v ∷ []) → Holds (has_ty (outcome-mir name) v) × WT v
    pub parts : (r : row.Denot) (v : Val) → Is row r (v ∷ []) → Both-are (next r) (answer r)

  abbrev pub outcome-struct : (S : struct.Declared) (laws : structs.Laws S) (next : S.D → T.Denot)
      (answer : S.D → N.Denot) → layout (struct.shape S) ≡ outcome-mir S.name
      → ((r : S.D) → structs.val S laws r ≡ outcome-val (next r) (answer r))
      → ((r : S.D)
      → AreAll (struct.fields S) (S.to r) (valss (struct.fields S) (structs.spells S.parts laws) (S.to r))
      → Both-are (next r) (answer r))
      → Outcome
  outcome-struct S laws next answer same-mir same-val parts = record {
    row = struct.row S;
    name = S.name;
    next = next;
    answer = answer;
    tells = λ r v is. ap only (structs.tells S laws r (v ∷ []) is) ∙ same-val r;
    typed = λ 𝓛 r v is.
        subst (λ τ. Holds (has_ty τ v) × WT v) same-mir ((structs.lawful S laws 𝓛).typed r (v ∷ []) is).0;
    parts = λ r v is. parts r (structs.owed S laws r (v ∷ []) is);
  }
