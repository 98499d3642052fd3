-- Laws of an input that is read as a number and then block by block: the question that the first blocks leave says of
-- the rest of the file what the first question says of all of it.
use Rattle.std.proofs.Common.{◌≡◌, ℕ, ◌<◌, ◌≤◌, inl, inr, true, false, List, [], ◌∷◌, ◌++◌, length, refl, sym, ◌∙◌, true≢false, append-nil, arith, take, drop, drop_at, take_all, length-take-le}
use Rattle.std.proofs.Math.Nat.{eq-or-lt_of_le}
use Rattle.std.proofs.Math.ListN.{drop_of_length-le}
use lib.Seq.{take-append-le}
use Rattle.std.specs.Prelude.{Option, None, Some, Result, Ok, Err, IfSome, IfOk, is_none, is_some}
use Rattle.std.specs.Io.KnownBytes.{Consumes, IsAtEnd}
use Rattle.streams.specs.Blocks.{goes_on}
use Rattle.monitor.specs.Calls.{found, or_else}
use Rattle.monitor.specs.declared.reasons.Reason.{Reason}
use Rattle.refusals.specs.declared.Refusal.{Refusal}
use Rattle.events.specs.declared.explain.Question.{Question}
use Rattle.events.specs.Claims.{ExplainedInParts}
use Rattle.events.specs.Explain.{Said, after_part, at_end, input_said, number_said, part_said, parts_said, question_of, says}
use Rattle.events.proofs.Explaining.{explained-in-parts, two-parts}

-- the bytes that the file had before and has now, where they are known
abbrev pub Left : Question → Option (List ℕ) → Question → Option (List ℕ) → Type 0
Left q before question now =
    IfSome before (λ file. (rest : List ℕ) × (now ≡ Some rest) × (part_said question rest ≡ part_said q file))

known : (rest : List ℕ) (later : Option (List ℕ)) (s : List ℕ) → Consumes (Some rest) later s
    → (ys : List ℕ) × (later ≡ Some ys) × (rest ≡ s ++ ys)
known rest None s taken = absurd taken
known rest (Some ys) s taken = (ys, refl, taken)

-- nothing is read yet
pub left-first : (q : Question) (before : Option (List ℕ)) → Left q before q before
left-first q None = tt
left-first q (Some file) = (file, refl, refl)

-- a whole block that says nothing
pub left-next :
    (q question next : Question) (before now later : Option (List ℕ)) (s : List ℕ) →
    Left q before question now →
    Consumes now later s →
    length s ≡ 65536 →
    part_said question s ≡ None →
    next ≡ after_part question s →
    Left q before next later
left-next q question next None now later s left taken long silent after = tt
left-next q question next (Some file) now later s (rest, is, same) taken long silent after =
    let (ys, ended, joined) = known rest later s (rw is at taken) in
    let parts = two-parts question s ys (omega (arith, long)) in
    (ys, ended, rw after (sym (rw silent at parts) ∙ (rw (← joined) same)))

-- a whole block after which no other is read says something
speaks : (n : ℕ) (o x : Option Said) → n ≡ 65536 → goes_on n (is_none o) ≡ false → or_else o x ≡ o
unfolding goes_on
speaks n None x whole on = absurd (true≢false (rw whole at on))
speaks n (Some said) x whole on = refl

-- the last block, as much of it as was read
pub left-last :
    (q question : Question) (before now later : Option (List ℕ)) (block : List ℕ) (n : ℕ) →
    Left q before question now →
    Consumes now later (take n block) →
    length block ≡ 65536 →
    n ≤ 65536 →
    (n < 65536 → IsAtEnd later) →
    goes_on (length (take n block)) (is_none (part_said question (take n block))) ≡ false →
    IfSome before (λ file. part_said question (take n block) ≡ part_said q file)
left-last q question None now later block n left taken long within end on = tt
left-last q question (Some file) now later block n (rest, is, same) taken long within end on =
    let s = take n block in
    let (ys, ended, joined) = known rest later s (rw is at taken) in
    let said : part_said question (s ++ ys) ≡ part_said q file = rw (← joined) same in
    let read : length s ≡ n = length-take-le n block (omega arith) in
    elim (eq-or-lt_of_le within) [
      | inr short ↦ (let none : ys ≡ [] = rw ended at (end short) in rw (none, append-nil) at said)
      | inl whole ↦
          sym (speaks _ _ _ (read ∙ whole) on) ∙ sym (two-parts question s ys (omega (arith, read, whole))) ∙ said
    ]

-- the number's bytes, and the rest of an input that is not over before
parted : (s ys : List ℕ) → length s ≤ 4 → (length s < 4 → ys ≡ []) → (take 4 (s ++ ys) ≡ s) × (drop 4 (s ++ ys) ≡ ys)
parted s ys fits end =
    let first : take 4 s ≡ s = take_all 4 s fits in
    elim (eq-or-lt_of_le fits) [
      | inl whole ↦ (
        (let enough : 4 ≤ length s = omega (arith, whole) in take-append-le 4 s ys enough ∙ first),
        drop_at s ys 4 whole,
      )
      | inr short ↦ rw (end short, append-nil) (first, drop_of_length-le s fits)
    ]

whole-input :
    (bytes s ys : List ℕ) →
    bytes ≡ s ++ ys →
    length s ≤ 4 →
    (length s < 4 → ys ≡ []) →
    found (at_end (part_said (question_of s) ys)) (λ said. said) (number_said (length s)) ≡ input_said bytes
unfolding ExplainedInParts parts_said
whole-input bytes s ys joined fits end =
    let (first, rest) = parted s ys fits end in
    let all = explained-in-parts (s ++ ys) (ys ∷ []) (append-nil ys ∙ sym rest) tt in
    rw joined (rw first at all)

each : {P : List ℕ → Type 0} (o : Option (List ℕ)) → ((bytes : List ℕ) → o ≡ Some bytes → P bytes) → IfSome o P
each None h = tt
each (Some bytes) h = h bytes refl

-- what the number says, or else the file
abbrev Answer : Type 0
Answer = Option (Result (Option Reason) Refusal)

by-first : (o : Answer) (x y : Said) → is_some o ≡ true → found x (λ said. said) (says o) ≡ y → at_end (says o) ≡ y
by-first None x y some all = absurd (true≢false (sym some))
by-first (Some said) x y some all = all

by-second : (o : Answer) (x y : Said) → is_some o ≡ false → found x (λ said. said) (says o) ≡ y → x ≡ y
by-second None x y none all = all
by-second (Some said) x y none all = absurd (true≢false none)

module _
    (before mid : Option (List ℕ))
    (number : List ℕ)
    (n : ℕ)
    (first : Answer)
    (taken : Consumes before mid (take n number))
    (long : length number ≡ 4)
    (fits : n ≤ 4)
    (end : n < 4 → IsAtEnd mid)
    (is : says first ≡ number_said (length (take n number)))
  where
    asked : (bytes : List ℕ) → before ≡ Some bytes → (ys : List ℕ) × (mid ≡ Some ys) ×
        (found (at_end (part_said (question_of (take n number)) ys)) (λ said. said) (says first) ≡ input_said bytes)
    asked bytes e =
        let s = take n number in
        let read : length s ≡ n = length-take-le n number (omega arith) in
        let (ys, ended, joined) = known bytes mid s (rw e at taken) in
        let over : length s < 4 → ys ≡ [] = λ short. rw ended at (end (omega (arith, read, short))) in
        (ys, ended, rw is (whole-input bytes s ys joined (omega (arith, read)) over))

    pub asked-number : is_some first ≡ true → IfSome before (λ bytes. at_end (says first) ≡ input_said bytes)
    asked-number some =
        each before (λ bytes e. let (ys, ended, all) = asked bytes e in by-first first _ _ some all)

    pub asked-file :
        {E : Type 0} (r : Result Answer E) (q : Question) →
        is_some first ≡ false →
        q ≡ question_of (take n number) →
        IfOk r (λ said. IfSome mid (λ file. says said ≡ part_said q file)) →
        IfOk r (λ said. IfSome before (λ bytes. at_end (says said) ≡ input_said bytes))
    asked-file (Err why) q none after answered = tt
    asked-file (Ok said) q none after answered =
        each before
        (λ bytes e.
        let (ys, ended, all) = asked bytes e in
        let file : says said ≡ part_said q ys = rw ended at answered in
        rw (file, after) (by-second first _ _ none all))
