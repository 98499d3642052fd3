-- The parameters of a lending function: as the function takes them and as its rule does, what is had of them when the
-- function begins, while the rule runs and when the function ends.
use mathlib.Core.Path.{◌≡◌, refl, sym, ap, subst}
use Prim.Native.Nat.{ℕ, suc}
use mathlib.Core.List.{[], ◌∷◌, List}
use seplogic.Ra.Ura.{Ura}
use mir.Syntax.{named}
use base.Logic.{SProp, ent, emp, id⊢, mono_r}
use base.Fml.{Lft, Share, Fml, ftrue, fsep, flft, fres}
use types.Logic.{Logic, sem}
use contract.Lifetimes.{Lfts, Shares, toks}
use types.Kit.{Item, ⋆, ‵, raw, ◌⊛◌, ◌$◌, ◌∵◌, !, qed, move, drop, use1, use2, use3, split, split3, join}
use types.Kit.{fsplit, fsplit3, fjoin, done}
use denote.RattleType.{RattleType, Denots, Valss, owns}
use denote.Laws.{Is, Ises, Spells, Tellss, valss}
use denote.Builtin.{u8}
use denote.Ref.{ShrRef, MutRef, shr_vals, mut_vals, shr_Tells, mut_Tells}
use denote.Signature.{Slot, plain, types_at}
use denote.Slice.{ShrSlice, MutSlice, shr_slice_vals, mut_slice_vals, shr_slice_Tells, mut_slice_Tells}
use denote.Steps.{owned, nothing}
use denote.Triple.End.{Fins, all, lasts_of}
use denote.Triple.Walked.{Stays, fits_of, has_of, AllGo}
use denote.Exit.{yes, left}
use Rattle.lending.proofs.PlainData.{Plain}
use Rattle.lending.proofs.Loans.{shared, shut, unshut}

pub data Parameters : Type 2 where
  none : Parameters
  -- plain data, and a slice of bytes to be read: they go to the rule as they are
  datum : (X : RattleType) → Plain X → Parameters → Parameters
  bytes : Parameters → Parameters
  -- a slice of bytes to be written: it is lent on to the rule
  buffer : Parameters → Parameters
  -- a record that is lent to be read, and one that is lent to be written: they go to the rule by value
  read : (X : RattleType) → Plain X → Parameters → Parameters
  written : (X : RattleType) → Plain X → Parameters → Parameters

-- ---- lifetimes: how many the function has, how many the rule, and which of the function's are the rule's
abbrev pub lfts : Parameters → ℕ
lfts none = 0
lfts (datum X PX F) = lfts F
lfts (bytes F) = suc (lfts F)
lfts (buffer F) = suc (lfts F)
lfts (read X PX F) = suc (lfts F)
lfts (written X PX F) = suc (lfts F)

abbrev pub rule-lfts : Parameters → ℕ
rule-lfts none = 0
rule-lfts (datum X PX F) = rule-lfts F
rule-lfts (bytes F) = suc (rule-lfts F)
rule-lfts (buffer F) = suc (rule-lfts F)
rule-lfts (read X PX F) = rule-lfts F
rule-lfts (written X PX F) = rule-lfts F

abbrev pub down : (F : Parameters) → Lfts (lfts F) → Lfts (rule-lfts F)
down none κs = tt
down (datum X PX F) κs = down F κs
down (bytes F) κs = (κs.0, down F κs.1)
down (buffer F) κs = (κs.0, down F κs.1)
down (read X PX F) κs = down F κs.1
down (written X PX F) κs = down F κs.1

abbrev pub shares-down : (F : Parameters) → Shares (lfts F) → Shares (rule-lfts F)
shares-down none qs = tt
shares-down (datum X PX F) qs = shares-down F qs
shares-down (bytes F) qs = (qs.0, shares-down F qs.1)
shares-down (buffer F) qs = (qs.0, shares-down F qs.1)
shares-down (read X PX F) qs = shares-down F qs.1
shares-down (written X PX F) qs = shares-down F qs.1

-- ---- the slots, where the first lifetime has the number j and the whole signature's lead `to` theirs
abbrev pub given : (F : Parameters) (n : ℕ) → (Lfts n → Lfts (lfts F)) → ℕ → List (Slot n)
given none n to j = []
given (datum X PX F) n to j = plain (λ _. X) ∷ given F n to j
given (bytes F) n to j = plain (λ κs. ShrSlice (named j) (to κs).0 u8) ∷ given F n (λ κs. (to κs).1) (suc j)
given (buffer F) n to j = plain (λ κs. MutSlice (named j) (to κs).0 u8) ∷ given F n (λ κs. (to κs).1) (suc j)
given (read X PX F) n to j = plain (λ κs. ShrRef (named j) (to κs).0 X) ∷ given F n (λ κs. (to κs).1) (suc j)
given (written X PX F) n to j = plain (λ κs. MutRef (named j) (to κs).0 X) ∷ given F n (λ κs. (to κs).1) (suc j)

abbrev pub taken : (F : Parameters) (n : ℕ) → (Lfts n → Lfts (rule-lfts F)) → ℕ → List (Slot n)
taken none n to j = []
taken (datum X PX F) n to j = plain (λ _. X) ∷ taken F n to j
taken (bytes F) n to j = plain (λ κs. ShrSlice (named j) (to κs).0 u8) ∷ taken F n (λ κs. (to κs).1) (suc j)
taken (buffer F) n to j = plain (λ κs. MutSlice (named j) (to κs).0 u8) ∷ taken F n (λ κs. (to κs).1) (suc j)
taken (read X PX F) n to j = plain (λ _. X) ∷ taken F n to j
taken (written X PX F) n to j = plain (λ _. X) ∷ taken F n to j

-- some of a signature's lifetimes, its last ones: how they are reached, the number of the first, and those of a call
pub record Side (m : ℕ) : Type 0 where
  pub count : ℕ
  pub to : Lfts count → Lfts m
  pub first : ℕ
  pub at : Lfts count

abbrev pub side : {m : ℕ} → Lfts m → Side m
side {m} κs = record { count = m; to = λ κs. κs; first = 0; at = κs }

abbrev pub next : {m : ℕ} → Side (suc m) → Side m
next s = record { count = s.count; to = λ κs. (s.to κs).1; first = suc s.first; at = s.at }

abbrev pub lft : {m : ℕ} → Side (suc m) → Lft
lft s = (s.to s.at).0

abbrev pub slots-given : (F : Parameters) (s : Side (lfts F)) → List (Slot s.count)
slots-given F s = given F s.count s.to s.first

abbrev pub slots-taken : (F : Parameters) (s : Side (rule-lfts F)) → List (Slot s.count)
slots-taken F s = taken F s.count s.to s.first

abbrev pub as-given : (F : Parameters) → Side (lfts F) → List RattleType
as-given F s = types_at {n = s.count} (slots-given F s) s.at

abbrev pub as-taken : (F : Parameters) → Side (rule-lfts F) → List RattleType
as-taken F s = types_at {n = s.count} (slots-taken F s) s.at

-- ---- what goes to the rule, and the machine values on both sides
abbrev pub pass : (F : Parameters) (s : Side (lfts F)) (z : Side (rule-lfts F))
    → Denots (as-given F s) → Denots (as-taken F z)
pass none s z a = tt
pass (datum X PX F) s z a = (a.0, pass F s z a.1)
pass (bytes F) s z a = (a.0, pass F (next s) (next z) a.1)
pass (buffer F) s z a = (a.0, pass F (next s) (next z) a.1)
pass (read X PX F) s z a = (a.0.now, pass F (next s) z a.1)
pass (written X PX F) s z a = (a.0.now, pass F (next s) z a.1)

abbrev pub spell : (F : Parameters) (s : Side (lfts F)) → Spells (as-given F s)
spell none s = tt
spell (datum X PX F) s = ((λ x. PX.val x ∷ []), spell F s)
spell (bytes F) s = (shr_slice_vals, spell F (next s))
spell (buffer F) s = (mut_slice_vals, spell F (next s))
spell (read X PX F) s = (shr_vals, spell F (next s))
spell (written X PX F) s = (mut_vals, spell F (next s))

pub tell : (F : Parameters) (s : Side (lfts F)) → Tellss (as-given F s) (Ises (as-given F s)) (spell F s)
tell none s = tt
tell (datum X PX F) s = (PX.tells, tell F s)
tell (bytes F) s = (shr_slice_Tells (named s.first) (lft s) u8, tell F (next s))
tell (buffer F) s = (mut_slice_Tells (named s.first) (lft s) u8, tell F (next s))
tell (read X PX F) s = (shr_Tells (named s.first) (lft s) X, tell F (next s))
tell (written X PX F) s = (mut_Tells (named s.first) (lft s) X, tell F (next s))

abbrev pub spelt : (F : Parameters) (s : Side (lfts F)) → Denots (as-given F s) → Valss (as-given F s)
spelt F s a = valss (as-given F s) (spell F s) a

abbrev pub handed : (F : Parameters) (s : Side (lfts F)) (z : Side (rule-lfts F))
    → Denots (as-given F s) → Valss (as-taken F z)
handed none s z a = tt
handed (datum X PX F) s z a = (PX.val a.0 ∷ [], handed F s z a.1)
handed (bytes F) s z a = (shr_slice_vals a.0, handed F (next s) (next z) a.1)
handed (buffer F) s z a = (mut_slice_vals a.0, handed F (next s) (next z) a.1)
handed (read X PX F) s z a = (PX.val a.0.now ∷ [], handed F (next s) z a.1)
handed (written X PX F) s z a = (PX.val a.0.now ∷ [], handed F (next s) z a.1)

-- ---- the records that are lent hold what a value of their type holds
abbrev pub Loaded : (F : Parameters) (s : Side (lfts F)) → Denots (as-given F s) → Type 0
Loaded none s a = Unit {0}
Loaded (datum X PX F) s a = Loaded F s a.1
Loaded (bytes F) s a = Loaded F (next s) a.1
Loaded (buffer F) s a = Loaded F (next s) a.1
Loaded (read X PX F) s a = Is X a.0.now (PX.val a.0.now ∷ []) × Loaded F (next s) a.1
Loaded (written X PX F) s a = Is X a.0.now (PX.val a.0.now ∷ []) × Loaded F (next s) a.1

-- ---- what the records that are written hold when the function ends, and what is bound of each parameter then
abbrev pub Stored : Parameters → Type 0
Stored none = Unit {0}
Stored (datum X PX F) = Stored F
Stored (bytes F) = Stored F
Stored (buffer F) = Stored F
Stored (read X PX F) = Stored F
Stored (written X PX F) = X.Denot × Stored F

-- no record is lent to be written: then nothing is stored
abbrev pub ReadOnly : Parameters → Type 0
ReadOnly none = Unit {0}
ReadOnly (datum X PX F) = ReadOnly F
ReadOnly (bytes F) = ReadOnly F
ReadOnly (buffer F) = ReadOnly F
ReadOnly (read X PX F) = ReadOnly F
ReadOnly (written X PX F) = ⊥

abbrev pub nothing_stored : (F : Parameters) → ReadOnly F → Stored F
nothing_stored none only = tt
nothing_stored (datum X PX F) only = nothing_stored F only
nothing_stored (bytes F) only = nothing_stored F only
nothing_stored (buffer F) only = nothing_stored F only
nothing_stored (read X PX F) only = nothing_stored F only
nothing_stored (written X PX F) only = absurd only

abbrev pub Left : (F : Parameters) (s : Side (lfts F)) (z : Side (rule-lfts F)) → Denots (as-given F s) → Type 0
Left F s z a = Fins z.at (slots-taken F z) (all yes (slots-taken F z)) (pass F s z a)

abbrev pub lasting : (F : Parameters) (s : Side (lfts F)) (z : Side (rule-lfts F)) (a : Denots (as-given F s))
    → Left F s z a → Stored F
    → Fins s.at (slots-given F s) (all yes (slots-given F s)) a
lasting none s z a ws fs = tt
lasting (datum X PX F) s z a ws fs = (ws.0, lasting F s z a.1 ws.1 fs)
lasting (bytes F) s z a ws fs = (tt, lasting F (next s) (next z) a.1 ws.1 fs)
lasting (buffer F) s z a ws fs = (ws.0, lasting F (next s) (next z) a.1 ws.1 fs)
lasting (read X PX F) s z a ws fs = (tt, lasting F (next s) z a.1 ws.1 fs)
lasting (written X PX F) s z a ws fs = (fs.0, lasting F (next s) z a.1 ws.1 fs.1)

-- ---- of any parameter the function has at its end what says its last value, and nothing more
module _ {n : ℕ} where
  abbrev pub stays : (ss : List (Slot n)) → Stays ss (all yes ss)
  stays [] = tt
  stays (s ∷ ss) =
      (record { fit = λ κs x w. Unit {0}; has = λ κs x w vs. left ((s.row κs).exit yes) x w }, stays ss)

  pub fits : (κs : Lfts n) (ss : List (Slot n)) (a : Denots (types_at ss κs)) (ws : Fins κs ss (all yes ss) a)
      → fits_of κs ss (all yes ss) (stays ss) a ws
  fits κs [] a ws = tt
  fits κs (s ∷ ss) a ws = (tt, fits κs ss a.1 ws.1)

  pub same-lasts : (κs : Lfts n) (ss : List (Slot n)) (a : Denots (types_at ss κs)) (ws : Fins κs ss (all yes ss) a)
      (vss : Valss (types_at ss κs)) → lasts_of κs ss (all yes ss) a ws ≡ has_of κs ss (all yes ss) (stays ss) a ws vss
  same-lasts κs [] a ws vss = refl
  same-lasts κs (s ∷ ss) a ws vss =
      ap (fsep (left ((s.row κs).exit yes) a.0 ws.0)) (same-lasts κs ss a.1 ws.1 vss.1)

  pub go : {M : Type 1} {𝓤 : Ura M} (𝓛 : Logic 𝓤) (ss : List (Slot n))
      → AllGo 𝓛 n ss (all yes ss) (stays ss)
  go 𝓛 [] = tt
  go 𝓛 (s ∷ ss) =
      ((λ κs x w vs fits. 𝓛.laws.⇛_intro (sem 𝓛 (left ((s.row κs).exit yes) x w))), go 𝓛 ss)

module _ {M : Type 1} (𝓤 : Ura M) where
  -- what is had of all records that are lent: when the function begins, while the rule runs, and when it ends
  abbrev pub loans : (F : Parameters) (s : Side (lfts F)) → Shares (lfts F) → Denots (as-given F s) → Item 𝓤
  loans none s qs a = ‵ ftrue
  loans (datum X PX F) s qs a = loans F s qs a.1
  loans (bytes F) s qs a = loans F (next s) qs.1 a.1
  loans (buffer F) s qs a = loans F (next s) qs.1 a.1
  loans (read X PX F) s qs a = shared PX 𝓤 (lft s) qs.0 a.0 ⊛ loans F (next s) qs.1 a.1
  loans (written X PX F) s qs a =
      shut PX 𝓤 (lft s) qs.0 a.0 a.0.now ⊛ loans F (next s) qs.1 a.1

  abbrev pub held : (F : Parameters) (s : Side (lfts F)) → Shares (lfts F) → Denots (as-given F s) → Item 𝓤
  held none s qs a = ‵ ftrue
  held (datum X PX F) s qs a = held F s qs a.1
  held (bytes F) s qs a = held F (next s) qs.1 a.1
  held (buffer F) s qs a = held F (next s) qs.1 a.1
  held (read X PX F) s qs a = ‵ (flft (lft s) qs.0) ⊛ held F (next s) qs.1 a.1
  held (written X PX F) s qs a =
      unshut PX 𝓤 (lft s) qs.0 a.0 a.0.now ⊛ held F (next s) qs.1 a.1

  abbrev pub back : (F : Parameters) (s : Side (lfts F)) → Shares (lfts F) → Denots (as-given F s) → Stored F → Item 𝓤
  back none s qs a fs = ‵ ftrue
  back (datum X PX F) s qs a fs = back F s qs a.1 fs
  back (bytes F) s qs a fs = back F (next s) qs.1 a.1 fs
  back (buffer F) s qs a fs = back F (next s) qs.1 a.1 fs
  back (read X PX F) s qs a fs = ‵ (flft (lft s) qs.0) ⊛ back F (next s) qs.1 a.1 fs
  back (written X PX F) s qs a fs =
      shut PX 𝓤 (lft s) qs.0 a.0 fs.0 ⊛ back F (next s) qs.1 a.1 fs.1

-- of records that are lent to be read, nothing changes from the rule's call to the end
pub same-held : {M : Type 1} (𝓤 : Ura M) (F : Parameters) (only : ReadOnly F) (s : Side (lfts F)) (qs : Shares (lfts F))
    (a : Denots (as-given F s)) → held 𝓤 F s qs a ≡ back 𝓤 F s qs a (nothing_stored F only)
same-held 𝓤 none only s qs a = refl
same-held 𝓤 (datum X PX F) only s qs a = same-held 𝓤 F only s qs a.1
same-held 𝓤 (bytes F) only s qs a = same-held 𝓤 F only (next s) qs.1 a.1
same-held 𝓤 (buffer F) only s qs a = same-held 𝓤 F only (next s) qs.1 a.1
same-held 𝓤 (read X PX F) only s qs a =
    ap (λ (i : Item 𝓤). ‵ (flft (lft s) qs.0) ⊛ i) (same-held 𝓤 F only (next s) qs.1 a.1)
same-held 𝓤 (written X PX F) only s qs a = absurd only

-- what goes to the rule beside those records
abbrev pub rest : (F : Parameters) (s : Side (lfts F)) → Denots (as-given F s) → Fml
rest none s a = ftrue
rest (datum X PX F) s a = fsep (X.own_val a.0 (PX.val a.0 ∷ [])) (rest F s a.1)
rest (bytes F) s a =
    fsep ((ShrSlice (named s.first) (lft s) u8).own_val a.0 (shr_slice_vals a.0)) (rest F (next s) a.1)
rest (buffer F) s a =
    fsep ((MutSlice (named s.first) (lft s) u8).own_val a.0 (mut_slice_vals a.0)) (rest F (next s) a.1)
rest (read X PX F) s a = rest F (next s) a.1
rest (written X PX F) s a = rest F (next s) a.1

module _ {M : Type 1} {𝓤 : Ura M} (𝓛 : Logic 𝓤) where
  -- the tokens of all lifetimes, and those of the rule's
  abbrev pub tokens : (F : Parameters) (s : Side (lfts F)) → Shares (lfts F) → SProp 𝓤
  tokens F s qs = toks 𝓛 (lfts F) (s.to s.at) qs

  abbrev pub rule-tokens : (F : Parameters) (s : Side (lfts F)) → Shares (lfts F) → SProp 𝓤
  rule-tokens F s qs = toks 𝓛 (rule-lfts F) (down F (s.to s.at)) (shares-down F qs)

  -- ---- when the function begins
  -- a slice goes to the rule, with the token of its lifetime
  beside : (P Q Q' : Fml) (T T' : SProp 𝓤) (I : Item 𝓤) (κ : Lft) (q : Share)
      → ent 𝓤 (⋆ 𝓛 (raw T ∷ ‵ Q ∷ [])) (⋆ 𝓛 (I ∷ raw T' ∷ ‵ Q' ∷ []))
      → ent 𝓤 (⋆ 𝓛 ((‵ (flft κ q) ⊛ raw T) ∷ ‵ (fsep P Q) ∷ []))
      (⋆ 𝓛 (I ∷ (‵ (flft κ q) ⊛ raw T') ∷ ‵ (fsep P Q') ∷ []))
  beside P Q Q' T T' I κ q more =
      qed 𝓛 ((‵ (flft κ q) ⊛ raw T) ∷ ‵ (fsep P Q) ∷ []) ∵ split ! $ move ! (2 ∷ []) $ fsplit ! $
      move ! (3 ∷ 1 ∷ []) $ use2 𝓛 (I ⊛ raw T' ⊛ ‵ Q') more $ split3 ! $ move ! (3 ∷ 2 ∷ []) $ fjoin ! $
      move ! (3 ∷ 2 ∷ []) $ join ! $ move ! (2 ∷ 0 ∷ 1 ∷ []) $ done !

  pub enters : (F : Parameters) (s : Side (lfts F)) (qs : Shares (lfts F)) (a : Denots (as-given F s))
      → ent 𝓤 (⋆ 𝓛 (raw (tokens F s qs) ∷ ‵ (owns (as-given F s) a (spelt F s a)) ∷ []))
      (⋆ 𝓛 (loans 𝓤 F s qs a ∷ raw (rule-tokens F s qs) ∷ ‵ (rest F s a) ∷ []))
  enters none s qs a = qed 𝓛 (raw (emp 𝓤) ∷ ‵ ftrue ∷ []) ∵ nothing ! $ done !
  enters (datum X PX F) s qs a =
      let own = X.own_val a.0 (PX.val a.0 ∷ []) in
      qed 𝓛 (raw (tokens F s qs) ∷ ‵ (fsep own (owns (as-given F s) a.1 (spelt F s a.1))) ∷ []) ∵
      move ! (1 ∷ []) $ fsplit ! $ move ! (2 ∷ 1 ∷ []) $
      use2 𝓛 (loans 𝓤 F s qs a.1 ⊛ raw (rule-tokens F s qs) ⊛ ‵ (rest F s a.1)) (enters F s qs a.1) $
      split3 ! $ move ! (3 ∷ 2 ∷ []) $ fjoin ! $ move ! (1 ∷ 2 ∷ 0 ∷ []) $ done !
  enters (bytes F) s qs a =
      beside ((ShrSlice (named s.first) (lft s) u8).own_val a.0 (shr_slice_vals a.0))
      (owns (as-given F (next s)) a.1 (spelt F (next s) a.1)) (rest F (next s) a.1)
      (tokens F (next s) qs.1) (rule-tokens F (next s) qs.1) (loans 𝓤 F (next s) qs.1 a.1)
      (lft s) qs.0 (enters F (next s) qs.1 a.1)
  enters (buffer F) s qs a =
      beside ((MutSlice (named s.first) (lft s) u8).own_val a.0 (mut_slice_vals a.0))
      (owns (as-given F (next s)) a.1 (spelt F (next s) a.1)) (rest F (next s) a.1)
      (tokens F (next s) qs.1) (rule-tokens F (next s) qs.1) (loans 𝓤 F (next s) qs.1 a.1)
      (lft s) qs.0 (enters F (next s) qs.1 a.1)
  enters (read X PX F) s qs a =
      let own = (ShrRef (named s.first) (lft s) X).own_val a.0 (shr_vals a.0) in
      qed 𝓛 ((‵ (flft (lft s) qs.0) ⊛ raw (tokens F (next s) qs.1))
      ∷ ‵ (fsep own (owns (as-given F (next s)) a.1 (spelt F (next s) a.1))) ∷ []) ∵
      split ! $ move ! (2 ∷ []) $ fsplit ! $ fsplit ! $ drop ! $ move ! (3 ∷ 1 ∷ []) $
      use2 𝓛 (loans 𝓤 F (next s) qs.1 a.1 ⊛ raw (rule-tokens F (next s) qs.1) ⊛ ‵ (rest F (next s) a.1))
      (enters F (next s) qs.1 a.1) $ split3 ! $ move ! (3 ∷ 4 ∷ []) $ join ! $ join ! $ done !
  enters (written X PX F) s qs a =
      let own = (MutRef (named s.first) (lft s) X).own_val a.0 (mut_vals a.0) in
      qed 𝓛 ((‵ (flft (lft s) qs.0) ⊛ raw (tokens F (next s) qs.1))
      ∷ ‵ (fsep own (owns (as-given F (next s)) a.1 (spelt F (next s) a.1))) ∷ []) ∵
      split ! $ move ! (2 ∷ []) $ fsplit ! $ fsplit3 ! $ drop ! $ move ! (4 ∷ 2 ∷ []) $
      use2 𝓛 (loans 𝓤 F (next s) qs.1 a.1 ⊛ raw (rule-tokens F (next s) qs.1) ⊛ ‵ (rest F (next s) a.1))
      (enters F (next s) qs.1 a.1) $ split3 ! $ move ! (4 ∷ 5 ∷ []) $ join ! $ move ! (4 ∷ 0 ∷ []) $ join ! $
      join ! $ done !

  -- ---- when the rule is called: with the records that were loaded, what it takes is whole
  by_value : {X : RattleType} (PX : Plain X) (x : X.Denot) → Is X x (PX.val x ∷ []) → (P Q : Fml)
      → ent 𝓤 (sem 𝓛 P) (sem 𝓛 Q) → ent 𝓤 (sem 𝓛 P) (sem 𝓛 (fsep (X.own_val x (PX.val x ∷ [])) Q))
  by_value {X} PX x is P Q more =
      qed 𝓛 (‵ P ∷ []) ∵ use1 𝓛 (‵ Q) more $ owned ! X (Is X) (PX.makes 𝓛) x _ is $ fjoin ! $ done !

  at_once : (P : Lft → Fml) (Q Q' : Fml) {κ κ' : Lft} → κ' ≡ κ → ent 𝓤 (sem 𝓛 Q) (sem 𝓛 Q')
      → ent 𝓤 (sem 𝓛 (fsep (P κ) Q)) (sem 𝓛 (fsep (P κ') Q'))
  at_once P Q Q' {κ} same more =
      subst (λ (κ' : Lft). ent 𝓤 (sem 𝓛 (fsep (P κ) Q)) (sem 𝓛 (fsep (P κ') Q'))) (sym same)
      (mono_r 𝓤 (sem 𝓛 (P κ)) more)

  pub owned-by-rule : (F : Parameters) (s : Side (lfts F)) (z : Side (rule-lfts F))
      → z.to z.at ≡ down F (s.to s.at) → (a : Denots (as-given F s)) → Loaded F s a
      → ent 𝓤 (sem 𝓛 (rest F s a)) (sem 𝓛 (owns (as-taken F z) (pass F s z a) (handed F s z a)))
  owned-by-rule none s z e a was = id⊢ 𝓤 (emp 𝓤)
  owned-by-rule (datum X PX F) s z e a was =
      mono_r 𝓤 (sem 𝓛 (X.own_val a.0 (PX.val a.0 ∷ []))) (owned-by-rule F s z e a.1 was)
  owned-by-rule (bytes F) s z e a was =
      at_once (λ κ. (ShrSlice (named 0) κ u8).own_val a.0 (shr_slice_vals a.0)) (rest F (next s) a.1)
      (owns (as-taken F (next z)) (pass F (next s) (next z) a.1) (handed F (next s) (next z) a.1))
      (ap (λ κs. κs.0) e)
      (owned-by-rule F (next s) (next z) (ap (λ κs. κs.1) e) a.1 was)
  owned-by-rule (buffer F) s z e a was =
      at_once (λ κ. (MutSlice (named 0) κ u8).own_val a.0 (mut_slice_vals a.0)) (rest F (next s) a.1)
      (owns (as-taken F (next z)) (pass F (next s) (next z) a.1) (handed F (next s) (next z) a.1))
      (ap (λ κs. κs.0) e)
      (owned-by-rule F (next s) (next z) (ap (λ κs. κs.1) e) a.1 was)
  owned-by-rule (read X PX F) s z e a was =
      by_value PX a.0.now was.0 (rest F (next s) a.1)
      (owns (as-taken F z) (pass F (next s) z a.1) (handed F (next s) z a.1))
      (owned-by-rule F (next s) z e a.1 was.1)
  owned-by-rule (written X PX F) s z e a was =
      by_value PX a.0.now was.0 (rest F (next s) a.1)
      (owns (as-taken F z) (pass F (next s) z a.1) (handed F (next s) z a.1))
      (owned-by-rule F (next s) z e a.1 was.1)

  -- ---- when the function ends: the tokens are had again, and what says the parameters' last values
  abbrev pub rule-lasts : (F : Parameters) (s : Side (lfts F)) (z : Side (rule-lfts F)) (a : Denots (as-given F s))
      → Left F s z a → Fml
  rule-lasts F s z a ws =
      lasts_of z.at (slots-taken F z) (all yes (slots-taken F z)) (pass F s z a) ws

  abbrev pub lasts : (F : Parameters) (s : Side (lfts F)) (z : Side (rule-lfts F)) (a : Denots (as-given F s))
      → Left F s z a → Stored F → Fml
  lasts F s z a ws fs =
      lasts_of s.at (slots-given F s) (all yes (slots-given F s)) a (lasting F s z a ws fs)

  -- a slice comes back from the rule, with its token
  behind : (P Q Q' : Fml) (T T' : SProp 𝓤) (I : Item 𝓤) (κ : Lft) (q : Share)
      → ent 𝓤 (⋆ 𝓛 (I ∷ raw T ∷ ‵ Q ∷ [])) (⋆ 𝓛 (raw T' ∷ ‵ Q' ∷ []))
      → ent 𝓤 (⋆ 𝓛 (I ∷ (‵ (flft κ q) ⊛ raw T) ∷ ‵ (fsep P Q) ∷ []))
      (⋆ 𝓛 ((‵ (flft κ q) ⊛ raw T') ∷ ‵ (fsep P Q') ∷ []))
  behind P Q Q' T T' I κ q more =
      qed 𝓛 (I ∷ (‵ (flft κ q) ⊛ raw T) ∷ ‵ (fsep P Q) ∷ []) ∵ move ! (1 ∷ []) $ split ! $ move ! (3 ∷ []) $ fsplit ! $
      move ! (4 ∷ 3 ∷ 1 ∷ []) $ use3 𝓛 (raw T' ⊛ ‵ Q') more $ split ! $ move ! (2 ∷ 1 ∷ []) $ fjoin ! $
      move ! (2 ∷ 1 ∷ []) $ join ! $ done !

  pub leaves : (F : Parameters) (s : Side (lfts F)) (z : Side (rule-lfts F))
      → z.to z.at ≡ down F (s.to s.at) → (qs : Shares (lfts F)) (a : Denots (as-given F s)) (ws : Left F s z a)
      (fs : Stored F)
      → ent 𝓤 (⋆ 𝓛 (back 𝓤 F s qs a fs ∷ raw (rule-tokens F s qs) ∷ ‵ (rule-lasts F s z a ws) ∷ []))
      (⋆ 𝓛 (raw (tokens F s qs) ∷ ‵ (lasts F s z a ws fs) ∷ []))
  leaves none s z e qs a ws fs = qed 𝓛 (‵ ftrue ∷ raw (emp 𝓤) ∷ ‵ ftrue ∷ []) ∵ drop ! $ done !
  leaves (datum X PX F) s z e qs a ws fs =
      let ours = raw (tokens F s qs) ⊛ ‵ (lasts F s z a.1 ws.1 fs) in
      qed 𝓛 (back 𝓤 F s qs a.1 fs ∷ raw (rule-tokens F s qs)
      ∷ ‵ (fsep (left (X.exit yes) a.0 ws.0) (rule-lasts F s z a.1 ws.1)) ∷ []) ∵
      move ! (2 ∷ []) $ fsplit ! $ move ! (2 ∷ 3 ∷ 1 ∷ []) $ use3 𝓛 ours (leaves F s z e qs a.1 ws.1 fs) $
      split ! $ move ! (2 ∷ 1 ∷ []) $ fjoin ! $ move ! (1 ∷ 0 ∷ []) $ done !
  leaves (bytes F) s z e qs a ws fs =
      behind ftrue (rule-lasts F (next s) (next z) a.1 ws.1) (lasts F (next s) (next z) a.1 ws.1 fs)
      (rule-tokens F (next s) qs.1) (tokens F (next s) qs.1) (back 𝓤 F (next s) qs.1 a.1 fs)
      (lft s) qs.0 (leaves F (next s) (next z) (ap (λ κs. κs.1) e) qs.1 a.1 ws.1 fs)
  leaves (buffer F) s z e qs a ws fs =
      let last : Lft → Fml = λ κ. left ((MutSlice (named 0) κ u8).exit yes) a.0 ws.0 in
      subst
      (λ (κ : Lft). ent 𝓤
      (⋆ 𝓛 (back 𝓤 F (next s) qs.1 a.1 fs ∷ (‵ (flft (lft s) qs.0) ⊛ raw (rule-tokens F (next s) qs.1))
      ∷ ‵ (fsep (last κ) (rule-lasts F (next s) (next z) a.1 ws.1)) ∷ []))
      (⋆ 𝓛 ((‵ (flft (lft s) qs.0) ⊛ raw (tokens F (next s) qs.1))
      ∷ ‵ (fsep (last (lft s)) (lasts F (next s) (next z) a.1 ws.1 fs)) ∷ [])))
      (sym (ap (λ κs. κs.0) e))
      (behind (last (lft s))
      (rule-lasts F (next s) (next z) a.1 ws.1) (lasts F (next s) (next z) a.1 ws.1 fs)
      (rule-tokens F (next s) qs.1) (tokens F (next s) qs.1) (back 𝓤 F (next s) qs.1 a.1 fs)
      (lft s) qs.0 (leaves F (next s) (next z) (ap (λ κs. κs.1) e) qs.1 a.1 ws.1 fs))
  leaves (read X PX F) s z e qs a ws fs =
      let ours = raw (tokens F (next s) qs.1) ⊛ ‵ (lasts F (next s) z a.1 ws.1 fs) in
      qed 𝓛 ((‵ (flft (lft s) qs.0) ⊛ back 𝓤 F (next s) qs.1 a.1 fs) ∷ raw (rule-tokens F (next s) qs.1)
      ∷ ‵ (fsep (left (X.exit yes) a.0.now ws.0) (rule-lasts F (next s) z a.1 ws.1)) ∷ []) ∵
      split ! $ move ! (3 ∷ []) $ fsplit ! $ drop ! $ move ! (2 ∷ 3 ∷ 0 ∷ []) $
      use3 𝓛 ours (leaves F (next s) z e qs.1 a.1 ws.1 fs) $ split ! $ move ! (1 ∷ []) $ nothing ! $ fjoin ! $
      move ! (2 ∷ 1 ∷ []) $ join ! $ done !
  leaves (written X PX F) s z e qs a ws fs =
      let ours = raw (tokens F (next s) qs.1) ⊛ ‵ (lasts F (next s) z a.1 ws.1 fs.1) in
      let said = fres a.0.ghost_name (X.coded.code fs.0) in
      qed 𝓛 ((shut PX 𝓤 (lft s) qs.0 a.0 fs.0 ⊛ back 𝓤 F (next s) qs.1 a.1 fs.1)
      ∷ raw (rule-tokens F (next s) qs.1)
      ∷ ‵ (fsep (left (X.exit yes) a.0.now ws.0) (rule-lasts F (next s) z a.1 ws.1)) ∷ []) ∵
      split ! $ split3 ! $ use1 𝓛 (‵ said) (𝓛.names.obs-res a.0.ghost_name (X.coded.code fs.0)) $
      -- [what says the last value; the borrow; its token; what is back of the others; the tokens; the last values]
      fjoin ! $ move ! (4 ∷ []) $ fsplit ! $ drop ! $ move ! (3 ∷ 4 ∷ 0 ∷ []) $
      use3 𝓛 ours (leaves F (next s) z e qs.1 a.1 ws.1 fs.1) $ split ! $ move ! (2 ∷ 1 ∷ []) $ fjoin ! $
      move ! (2 ∷ 1 ∷ []) $ join ! $ done !
