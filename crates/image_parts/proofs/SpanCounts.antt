-- How many spans a list has.
use Rattle.std.proofs.Common.{◌≡◌, ◌≢◌, ℕ, ◌+◌, ◌<◌, ◌≤◌, true, false, cond, eqb, List, [], ◌∷◌, refl, zero-add, ◌∙◌, arith, inl, inr}
use Rattle.std.proofs.lemmas.Bool.{cases_lt, eq-eqb, ne_eqb}
use Rattle.std.proofs.lemmas.List.Sums.{sum_by-cons}
use Rattle.s4_types.specs.declared.spans.Span.{Span}
use Rattle.image_parts.specs.Spans.{SpansFollow, SpansKeep, span_count}
use Rattle.image_parts.specs.declared.headers.Header.{Header}

count_this : (object : ℕ) (s : Span) (spans : List Span) → s.object ≡ object → span_count object (s ∷ spans) ≡ 1 + span_count object spans
count_this object s spans is =
    let same : eqb s.object object ≡ true = eq-eqb s.object object is in
    sum_by-cons (λ (x : Span). cond (eqb x.object object) 1 0) s spans ∙ rw same refl

count_other : (object : ℕ) (s : Span) (spans : List Span) → s.object ≢ object → span_count object (s ∷ spans) ≡ span_count object spans
count_other object s spans other =
    let no : eqb s.object object ≡ false = ne_eqb s.object object other in
    sum_by-cons (λ (x : Span). cond (eqb x.object object) 1 0) s spans ∙ rw no (zero-add (span_count object spans))

-- how many spans of each object can come after one that is the nth of its list
record Few (object : ℕ) (before : Span) (nth : ℕ) (spans : List Span) : Type 0 where
  here : object ≡ before.object → nth + span_count object spans ≤ 64
  passed : object < before.object → span_count object spans ≡ 0
  ahead : before.object < object → span_count object spans ≤ 64

few : (h : Header) (object : ℕ) (before : Span) (nth : ℕ) (spans : List Span) → nth ≤ 64 → SpansFollow h before nth spans → Few object before nth spans
few h object before nth [] le k =
    let none : span_count object [] ≡ 0 = refl in
    record { here = λ _. omega (arith, le, none); passed = λ _. none; ahead = λ _. omega (arith, none) }
few h object before nth (s ∷ spans) le (keeps, inl (begins, k)) =
    let later = few h object s 1 spans (omega arith) k in
    let this = count_this object s spans in
    let other = count_other object s spans in
    record {
      here = λ e. let o = other (λ x. omega (arith, e, begins, x)) in let none = later.passed (omega (arith, e, begins)) in omega (arith, le, o, none);
      passed = λ lt. let o = other (λ x. omega (arith, lt, begins, x)) in o ∙ later.passed (omega (arith, lt, begins));
      ahead = λ lt. elim (cases_lt object s.object) [
        | inl below ↦ let o = other (λ x. omega (arith, below, x)) in let none = later.passed below in omega (arith, o, none)
        | inr at ↦ elim (cases_lt s.object object) [
          | inl above ↦ let o = other (λ x. omega (arith, above, x)) in let more = later.ahead above in omega (arith, o, more)
          | inr to ↦ let e : object ≡ s.object = omega (arith, at, to) in let o = this (omega (arith, e)) in let more = later.here e in omega (arith, o, more)
        ]
      ];
    }
few h object before nth (s ∷ spans) le (keeps, inr (goes_on, k)) =
    let same = goes_on.0 in
    let later = few h object s (nth + 1) spans (omega (arith, goes_on.2)) k in
    let this = count_this object s spans in
    let other = count_other object s spans in
    record {
      here = λ e. let o = this (omega (arith, e, same)) in let more = later.here (omega (arith, e, same)) in omega (arith, o, more);
      passed = λ lt. let o = other (λ x. omega (arith, lt, same, x)) in o ∙ later.passed (omega (arith, lt, same));
      ahead = λ lt. let o = other (λ x. omega (arith, lt, same, x)) in let more = later.ahead (omega (arith, lt, same)) in omega (arith, o, more);
    }

pub few_in_a_list : (h : Header) (spans : List Span) (object : ℕ) → SpansKeep h spans → span_count object spans ≤ 64
few_in_a_list h [] object k = let none : span_count object [] ≡ 0 = refl in omega (arith, none)
few_in_a_list h (s ∷ spans) object k =
    let later = few h object s 1 spans (omega arith) k.1 in
    let this = count_this object s spans in
    let other = count_other object s spans in
    elim (cases_lt object s.object) [
      | inl below ↦ let o = other (λ x. omega (arith, below, x)) in let none = later.passed below in omega (arith, o, none)
      | inr at ↦ elim (cases_lt s.object object) [
        | inl above ↦ let o = other (λ x. omega (arith, above, x)) in let more = later.ahead above in omega (arith, o, more)
        | inr to ↦ let e : object ≡ s.object = omega (arith, at, to) in let o = this (omega (arith, e)) in let more = later.here e in omega (arith, o, more)
      ]
    ]
