-- What a list of triples makes of the pointer at an index: each index has a triple or none.
use Rattle.std.proofs.Common.{◌≡◌, ℕ, ◌<◌, ◌==◌, cond, inl, inr, ◌⊎◌, List, [], ◌∷◌, length, get_or, Option, None, refl, sym, ap, ◌∙◌, arith}
use Rattle.std.proofs.Math.ListN.{set, length-set}
use Rattle.std.proofs.lemmas.List.{get_or-set_same, get_or-set_other, ext_get_or}
use Rattle.std.proofs.lemmas.Bool.{cases_Bool, cases_eq, eq-eqb, ne_eqb}
use Rattle.s4_types.specs.Pointer.{Place}
use Rattle.s4_types.specs.declared.limits.TheConstants.{OBJECT_BLOCKS}
use Rattle.codec.specs.declared.entries.Triple.{Triple}
use Rattle.undo_redo.specs.Linked.{pointer_after, pointer_before}
use Rattle.undo_redo.specs.Redone.{with_after, with_before}

pub length-with_after : (triples : List Triple) (pointers : List (Option Place)) → length (with_after triples pointers) ≡ length pointers
length-with_after [] pointers = refl
length-with_after (t ∷ triples) pointers = length-with_after triples (set pointers t.index t.after) ∙ length-set pointers t.index t.after

pub length-with_before : (triples : List Triple) (pointers : List (Option Place)) → length (with_before triples pointers) ≡ length pointers
length-with_before [] pointers = refl
length-with_before (t ∷ triples) pointers = length-with_before triples (set pointers t.index t.before) ∙ length-set pointers t.index t.before

at-set : (pointers : List (Option Place)) (i n : ℕ) (p : Option Place) → n < length pointers → get_or (set pointers i p) n None ≡ cond (i == n) p (get_or pointers n None)
at-set pointers i n p lt = elim (cases_eq i n) [
  | inl e ↦ (let in_it : i < length pointers = omega arith in
      ap (λ k. get_or (set pointers i p) k None) (sym e) ∙ get_or-set_same pointers i p None in_it ∙ sym (ap (λ b. cond b p (get_or pointers n None)) (eq-eqb i n e)))
  | inr ne ↦ get_or-set_other pointers i n p None (λ (e : n ≡ i). ne (sym e)) ∙ sym (ap (λ b. cond b p (get_or pointers n None)) (ne_eqb i n ne))
]

pub at-with_after : (triples : List Triple) (pointers : List (Option Place)) (n : ℕ) → n < length pointers → get_or (with_after triples pointers) n None ≡ pointer_after triples n (get_or pointers n None)
at-with_after [] pointers n lt = refl
at-with_after (t ∷ triples) pointers n lt =
    let in_it : n < length (set pointers t.index t.after) = omega (arith, length-set pointers t.index t.after) in
    at-with_after triples (set pointers t.index t.after) n in_it ∙ ap (λ p. pointer_after triples n p) (at-set pointers t.index n t.after lt)

pub at-with_before : (triples : List Triple) (pointers : List (Option Place)) (n : ℕ) → n < length pointers → get_or (with_before triples pointers) n None ≡ pointer_before triples n (get_or pointers n None)
at-with_before [] pointers n lt = refl
at-with_before (t ∷ triples) pointers n lt =
    let in_it : n < length (set pointers t.index t.before) = omega (arith, length-set pointers t.index t.before) in
    at-with_before triples (set pointers t.index t.before) n in_it ∙ ap (λ p. pointer_before triples n p) (at-set pointers t.index n t.before lt)

-- What two functions make of a value: both give one answer whatever it was, or both leave it.
pub record Settles {A : Type 0} (forth back : A → A) : Type 0 where
  pub forth_one : (p q : A) → forth p ≡ forth q
  pub back_one : (p q : A) → back p ≡ back q

pub record Leaves {A : Type 0} (forth back : A → A) : Type 0 where
  pub forth_same : (p : A) → forth p ≡ p
  pub back_same : (p : A) → back p ≡ p

abbrev pub Either : {A : Type 0} → (A → A) → (A → A) → Type 0
Either forth back = Settles forth back ⊎ Leaves forth back

-- so do two, one after the other
pub either_both : {A : Type 0} (f b g c : A → A) → Either f b → Either g c → Either (λ x. g (f x)) (λ x. b (c x))
either_both f b g c (inl s) h = inl (record { forth_one = λ p q. ap g (s.forth_one p q); back_one = λ p q. s.back_one (c p) (c q) })
either_both f b g c (inr l) (inl s) = inl (record { forth_one = λ p q. s.forth_one (f p) (f q); back_one = λ p q. ap b (s.back_one p q) })
either_both f b g c (inr l) (inr k) = inr (record { forth_same = λ p. ap g (l.forth_same p) ∙ k.forth_same p; back_same = λ p. ap b (k.back_same p) ∙ l.back_same p })

pub told_or_not : (triples : List Triple) (n : ℕ) → Either (pointer_after triples n) (pointer_before triples n)
told_or_not [] n = inr (record { forth_same = λ p. refl; back_same = λ p. refl })
told_or_not (t ∷ triples) n = elim (told_or_not triples n) [
  | inl told ↦ inl (record { forth_one = λ p q. told.forth_one _ _; back_one = λ p q. told.back_one _ _ })
  | inr left ↦ elim (cases_Bool (t.index == n)) [
    | inl here ↦ inl (record {
      forth_one = λ p q. ap (λ b. pointer_after triples n (cond b t.after p)) here ∙ sym (ap (λ b. pointer_after triples n (cond b t.after q)) here);
      back_one = λ p q. ap (λ b. pointer_before triples n (cond b t.before p)) here ∙ sym (ap (λ b. pointer_before triples n (cond b t.before q)) here);
    })
    | inr other ↦ inr (record {
      forth_same = λ p. ap (λ b. pointer_after triples n (cond b t.after p)) other ∙ left.forth_same p;
      back_same = λ p. ap (λ b. pointer_before triples n (cond b t.before p)) other ∙ left.back_same p;
    })
  ]
]

pub before_after : (triples : List Triple) (n : ℕ) (p : Option Place) → pointer_before triples n (pointer_after triples n p) ≡ pointer_before triples n p
before_after triples n p = elim (told_or_not triples n) [
  | inl told ↦ told.back_one _ _
  | inr left ↦ ap (pointer_before triples n) (left.forth_same p)
]

pub after_before : (triples : List Triple) (n : ℕ) (p : Option Place) → pointer_after triples n (pointer_before triples n p) ≡ pointer_after triples n p
after_before triples n p = elim (told_or_not triples n) [
  | inl told ↦ told.forth_one _ _
  | inr left ↦ ap (pointer_after triples n) (left.back_same p)
]

pub same_pointers : (ps qs : List (Option Place)) → length ps ≡ OBJECT_BLOCKS → length qs ≡ OBJECT_BLOCKS → ((n : ℕ) → n < OBJECT_BLOCKS → get_or ps n None ≡ get_or qs n None) → ps ≡ qs
same_pointers ps qs a b same = ext_get_or None ps qs (a ∙ sym b) (λ n lt. same n (omega arith))
