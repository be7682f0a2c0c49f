-- Runs in order, from a floor on, are told by what they cover.
use Rattle.std.proofs.Common.{◌≡◌, ◌⊎◌, inl, inr, ℕ, ◌+◌, ◌-◌, ◌<◌, ◌≤◌, ◌==◌, ◌&&◌, ◌||◌, Bool, true, false, leb, ltb, eqb, List, [], ◌∷◌, refl, sym, ap, subst, ◌∙◌, arith}
use Rattle.std.specs.List.{list_any}
use Rattle.std.proofs.lemmas.Bool.{cases_Bool, cases_lt, or_cases, or_left, and_parts, and_from, and_left, and_right, eq-eqb, ne_eqb, eqb-true, ltb-true, leb-true, le-leb, lt-leb, false≢true}
use Rattle.s4_types.specs.declared.spans.Span.{Span}
use Rattle.s4_model.specs.Visible.{is_within}
use Rattle.window.specs.Runs.{covers, is_before, IsBeforeAll, Ascend, AllBeginFrom}
use Rattle.window.specs.Timeline.{CoverAlike}

-- ---- which moments of which lists are covered

-- those of a run's own list, from its first to its last
covered : (list t : ℕ) (run : Span) → run.object ≡ list → run.first ≤ t → t ≤ run.last → covers list t run ≡ true
covered list t run own from to = and_from (run.object == list) (is_within run t) (eq-eqb run.object list own) (and_from (leb run.first t) (leb t run.last) (le-leb run.first t from) (le-leb t run.last to))

-- none of a list before its own, and none of its own before its first
abbrev IsAhead : ℕ → ℕ → Span → Type 0
IsAhead list t run = (list < run.object) ⊎ ((list ≡ run.object) × (t < run.first))

ahead : (list t : ℕ) (run : Span) → IsAhead list t run → covers list t run ≡ false
ahead list t run (inl less) = and_left (run.object == list) (is_within run t) (ne_eqb run.object list (λ is. omega arith))
ahead list t run (inr early) = and_right (run.object == list) (is_within run t) (and_left (leb run.first t) (leb t run.last) (lt-leb run.first t early.1))

-- none of its own list after its last
behind : (list t : ℕ) (run : Span) → run.last < t → covers list t run ≡ false
behind list t run late = and_right (run.object == list) (is_within run t) (and_right (leb run.first t) (leb t run.last) (lt-leb t run.last late))

-- what isn't past the moment that a run leaves out after it is ahead of the runs that follow
abbrev IsUpTo : ℕ → ℕ → Span → Type 0
IsUpTo list t run = (list < run.object) ⊎ ((list ≡ run.object) × (t ≤ run.last + 1))

ahead_of_next : (list t : ℕ) (x y : Span) → IsUpTo list t x → is_before x y ≡ true → IsAhead list t y
ahead_of_next list t x y up before = elim (or_cases (ltb x.object y.object) (eqb x.object y.object && ltb 1 (y.first - x.last)) before) [
  | inl next ↦ (let less : x.object < y.object = ltb-true x.object y.object next in inl (elim up [ inl low ↦ omega arith | inr own ↦ omega (arith, own.0) ]))
  | inr same ↦ (let both = and_parts (eqb x.object y.object) (ltb 1 (y.first - x.last)) same in
      let own : x.object ≡ y.object = eqb-true x.object y.object both.0 in
      let gap : 1 < y.first - x.last = ltb-true 1 (y.first - x.last) both.1 in
      elim up [ inl low ↦ inl (omega arith) | inr here ↦ inr (here.0 ∙ own, omega (arith, here.1)) ])
]

none_follows : (list t : ℕ) (x : Span) (runs : List Span) → IsUpTo list t x → IsBeforeAll x runs → list_any (covers list t) runs ≡ false
none_follows list t x [] up all = refl
none_follows list t x (y ∷ runs) up all = ap (λ (b : Bool). b || list_any (covers list t) runs) (ahead list t y (ahead_of_next list t x y up all.0)) ∙ none_follows list t x runs up all.1

first_covers : (list t : ℕ) (x : Span) (runs : List Span) → covers list t x ≡ true → list_any (covers list t) (x ∷ runs) ≡ true
first_covers list t x runs here = or_left (covers list t x) (list_any (covers list t) runs) here

none_covers : (list t : ℕ) (x : Span) (runs : List Span) → covers list t x ≡ false → IsUpTo list t x → IsBeforeAll x runs → list_any (covers list t) (x ∷ runs) ≡ false
none_covers list t x runs other up all = ap (λ (b : Bool). b || list_any (covers list t) runs) other ∙ none_follows list t x runs up all

-- ---- the first runs of two lists that cover alike

-- neither covers a moment ahead of the other
not_ahead : (floor : ℕ) (x y : Span) (xs ys : List Span) → floor ≤ x.first → x.first ≤ x.last → y.first ≤ y.last → IsBeforeAll y ys → CoverAlike floor (x ∷ xs) (y ∷ ys) → IsAhead x.object x.first y → ⊥
not_ahead floor x y xs ys from order_x order_y all alike early =
    let up : IsUpTo x.object x.first y = elim early [ inl less ↦ inl less | inr own ↦ inr (own.0, omega (arith, own.1)) ] in
    let here : list_any (covers x.object x.first) (x ∷ xs) ≡ true = first_covers x.object x.first x xs (covered x.object x.first x refl (omega arith) order_x) in
    let none : list_any (covers x.object x.first) (y ∷ ys) ≡ false = none_covers x.object x.first y ys (ahead x.object x.first y early) up all in
    false≢true (sym none ∙ sym (alike x.object x.first from) ∙ here)

-- neither ends after the other, where they begin together
not_behind : (floor : ℕ) (x y : Span) (xs ys : List Span) → floor ≤ x.first → x.first ≤ x.last → IsBeforeAll x xs → CoverAlike floor (x ∷ xs) (y ∷ ys) → x.object ≡ y.object → x.first ≡ y.first → x.last < y.last → ⊥
not_behind floor x y xs ys from order all alike own first longer =
    let none : list_any (covers x.object (x.last + 1)) (x ∷ xs) ≡ false = none_covers x.object (x.last + 1) x xs (behind x.object (x.last + 1) x (omega arith)) (inr (refl, omega arith)) all in
    let here : list_any (covers x.object (x.last + 1)) (y ∷ ys) ≡ true = first_covers x.object (x.last + 1) y ys (covered x.object (x.last + 1) y (sym own) (omega arith) (omega arith)) in
    false≢true (sym none ∙ alike x.object (x.last + 1) (omega arith) ∙ here)

alike_back : (floor : ℕ) (xs ys : List Span) → CoverAlike floor xs ys → CoverAlike floor ys xs
alike_back floor xs ys alike = λ list t from. sym (alike list t from)

made : ℕ → ℕ → ℕ → Span
made object first last = record { object = object; first = first; last = last }

same_span : (x y : Span) → x.object ≡ y.object → x.first ≡ y.first → x.last ≡ y.last → x ≡ y
unfolding made
same_span x y object first last = ap (λ (n : ℕ). made n x.first x.last) object ∙ ap (λ (n : ℕ). made y.object n x.last) first ∙ ap (made y.object y.first) last

-- neither of two numbers is below the other
equal : (a b : ℕ) → (a < b → ⊥) → (b < a → ⊥) → a ≡ b
equal a b up down = elim (cases_lt a b) [
  | inl less ↦ absurd (up less)
  | inr more ↦ elim (cases_lt b a) [ inl less ↦ absurd (down less) | inr le ↦ omega arith ]
]

one_first : (floor : ℕ) (x y : Span) (xs ys : List Span) → Ascend (x ∷ xs) → Ascend (y ∷ ys) → floor ≤ x.first → floor ≤ y.first → CoverAlike floor (x ∷ xs) (y ∷ ys) → x ≡ y
one_first floor x y xs ys order_x order_y from_x from_y alike =
    let back : CoverAlike floor (y ∷ ys) (x ∷ xs) = alike_back floor (x ∷ xs) (y ∷ ys) alike in
    let ahead_x : IsAhead x.object x.first y → ⊥ = not_ahead floor x y xs ys from_x order_x.0 order_y.0 order_y.1 alike in
    let ahead_y : IsAhead y.object y.first x → ⊥ = not_ahead floor y x ys xs from_y order_y.0 order_x.0 order_x.1 back in
    let object : x.object ≡ y.object = equal x.object y.object (λ less. ahead_x (inl less)) (λ less. ahead_y (inl less)) in
    let first : x.first ≡ y.first = equal x.first y.first (λ less. ahead_x (inr (object, less))) (λ less. ahead_y (inr (sym object, less))) in
    let last : x.last ≡ y.last = equal x.last y.last (not_behind floor x y xs ys from_x order_x.0 order_x.1 alike object first) (not_behind floor y x ys xs from_y order_y.0 order_y.1 back (sym object) (sym first)) in
    same_span x y object first last

-- ---- what follows the first

others_alike : (floor : ℕ) (x : Span) (xs ys : List Span) → IsBeforeAll x xs → IsBeforeAll x ys → CoverAlike floor (x ∷ xs) (x ∷ ys) → CoverAlike floor xs ys
others_alike floor x xs ys all_x all_y alike = λ list t from. elim (cases_Bool (covers list t x)) [
  | inl here ↦ (let both = and_parts (x.object == list) (is_within x t) here in
      let own : x.object ≡ list = eqb-true x.object list both.0 in
      let to : t ≤ x.last = leb-true t x.last (and_parts (leb x.first t) (leb t x.last) both.1).1 in
      let up : IsUpTo list t x = inr (sym own, omega arith) in
      none_follows list t x xs up all_x ∙ sym (none_follows list t x ys up all_y))
  | inr other ↦
      sym (ap (λ (b : Bool). b || list_any (covers list t) xs) other) ∙ alike list t from ∙ ap (λ (b : Bool). b || list_any (covers list t) ys) other
]

-- two lists of runs in order that cover alike
pub one_list_of_runs : (floor : ℕ) (xs ys : List Span) → Ascend xs → Ascend ys → AllBeginFrom floor xs → AllBeginFrom floor ys → CoverAlike floor xs ys → xs ≡ ys
one_list_of_runs floor [] [] order_x order_y from_x from_y alike = refl
one_list_of_runs floor [] (y ∷ ys) order_x order_y from_x from_y alike =
    let here : list_any (covers y.object y.first) (y ∷ ys) ≡ true = first_covers y.object y.first y ys (covered y.object y.first y refl (omega arith) order_y.0) in
    absurd (false≢true (alike y.object y.first from_y.0 ∙ here))
one_list_of_runs floor (x ∷ xs) [] order_x order_y from_x from_y alike =
    let here : list_any (covers x.object x.first) (x ∷ xs) ≡ true = first_covers x.object x.first x xs (covered x.object x.first x refl (omega arith) order_x.0) in
    absurd (false≢true (sym (alike x.object x.first from_x.0) ∙ here))
one_list_of_runs floor (x ∷ xs) (y ∷ ys) order_x order_y from_x from_y alike =
    let same : x ≡ y = one_first floor x y xs ys order_x order_y from_x.0 from_y.0 alike in
    let before_ys : IsBeforeAll x ys = subst (λ (z : Span). IsBeforeAll z ys) (sym same) order_y.1 in
    let alike_x : CoverAlike floor (x ∷ xs) (x ∷ ys) = subst (λ (z : Span). CoverAlike floor (x ∷ xs) (z ∷ ys)) (sym same) alike in
    let rest : xs ≡ ys = one_list_of_runs floor xs ys order_x.2 order_y.2 from_x.1 from_y.1 (others_alike floor x xs ys order_x.1 before_ys alike_x) in
    ap (λ (l : List Span). x ∷ l) rest ∙ ap (λ (z : Span). z ∷ ys) same
