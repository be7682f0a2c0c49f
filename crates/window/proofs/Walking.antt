-- A walk through two lists of runs, to the first moment that is in none.
use Rattle.std.proofs.Common.{◌≡◌, inl, inr, ℕ, true, false, ◌+◌, ◌<◌, ◌≤◌, nat_le, max, List, [], ◌∷◌, refl, sym, ap, subst, ◌∙◌, arith}
use Rattle.std.specs.List.{AllByRecursion}
use Rattle.std.proofs.lemmas.Bool.{and_left, and_right, and_from, or_from, or_parts, le-leb, lt-leb, leb-false, and_cases, both_ways}
use Rattle.s4_types.specs.declared.spans.Span.{Span}
use Rattle.s4_model.specs.Visible.{is_within}
use Rattle.window.specs.Runs.{cover, BeginInOrder, IsLeft}

-- no run has a moment in it before which none begins
before_all_begin : (t : ℕ) (run : Span) (runs : List Span) → t < run.first → AllByRecursion (λ next. run.first ≤ next.first) runs → cover runs t ≡ false
before_all_begin t run [] lt later = refl
before_all_begin t run (next ∷ runs) lt later =
    let first : run.first ≤ next.first = later.0 in
    or_from (is_within next t) (cover runs t) (and_left (nat_le next.first t) (nat_le t next.last) (lt-leb next.first t (omega arith))) (before_all_begin t run runs lt later.1)

pub before_the_first : (t : ℕ) (run : Span) (runs : List Span) → t < run.first → BeginInOrder (run ∷ runs) → cover (run ∷ runs) t ≡ false
before_the_first t run runs lt order =
    or_from (is_within run t) (cover runs t) (and_left (nat_le run.first t) (nat_le t run.last) (lt-leb run.first t lt)) (before_all_begin t run runs lt order.0)

behind : (run : Span) (t : ℕ) → run.last + 1 ≤ t → is_within run t ≡ false
behind run t le = and_right (nat_le run.first t) (nat_le t run.last) (lt-leb t run.last (omega arith))

inside : (run : Span) (t : ℕ) → run.first ≤ t → t ≤ run.last → is_within run t ≡ true
inside run t low high = and_from (nat_le run.first t) (nat_le t run.last) (le-leb run.first t low) (le-leb t run.last high)

-- a moment that a run begun by then hasn't in it comes after the run
comes_after : (run : Span) (from t : ℕ) → run.first ≤ from → from ≤ t → is_within run t ≡ false → max from (run.last + 1) ≤ t
comes_after run from t begun le out = elim (and_cases (nat_le run.first t) (nat_le t run.last) out) [
  | inl early ↦ let lt : t < run.first = leb-false _ _ early in absurd (omega arith)
  | inr late ↦ let lt : run.last < t = leb-false _ _ late in omega arith
]

-- What the walk keeps: a moment is left of the lists from here on where one is left of those that it began with.
pub record Goes (all own : List Span) (from : ℕ) (all_left own_left : List Span) (at to : ℕ) : Type 0 where
  pub back : IsLeft all_left own_left at to → IsLeft all own from to
  pub on : IsLeft all own from to → IsLeft all_left own_left at to

pub goes_past_all : (run : Span) (all own : List Span) (from to : ℕ) → run.first ≤ from → Goes (run ∷ all) own from all own (max from (run.last + 1)) to
goes_past_all run all own from to begun = record {
  back = λ left. let low : max from (run.last + 1) ≤ left.moment = left.begun in record {
    moment = left.moment;
    begun = omega arith;
    ended = left.ended;
    not_in_all = or_from (is_within run left.moment) (cover all left.moment) (behind run left.moment (omega arith)) left.not_in_all;
    not_in_own = left.not_in_own;
  };
  on = λ left. let parts = or_parts (is_within run left.moment) (cover all left.moment) left.not_in_all in record {
    moment = left.moment;
    begun = comes_after run from left.moment begun left.begun parts.0;
    ended = left.ended;
    not_in_all = parts.1;
    not_in_own = left.not_in_own;
  };
}

turned : (all own : List Span) (from to : ℕ) → IsLeft all own from to → IsLeft own all from to
turned all own from to left = record {
  moment = left.moment;
  begun = left.begun;
  ended = left.ended;
  not_in_all = left.not_in_own;
  not_in_own = left.not_in_all;
}

pub goes_past_own : (run : Span) (all own : List Span) (from to : ℕ) → run.first ≤ from → Goes all (run ∷ own) from all own (max from (run.last + 1)) to
goes_past_own run all own from to begun =
    let other : Goes (run ∷ own) all from own all (max from (run.last + 1)) to = goes_past_all run own all from to begun in
    record {
      back = λ left. turned (run ∷ own) all from to (other.back (turned all own (max from (run.last + 1)) to left));
      on = λ left. turned own all (max from (run.last + 1)) to (other.on (turned all (run ∷ own) from to left));
    }

-- nothing is left where a run that has begun ends at or after the end
pub none_left_of_all : (run : Span) (all own : List Span) (from to : ℕ) → run.first ≤ from → to ≤ run.last → IsLeft (run ∷ all) own from to → ⊥
none_left_of_all run all own from to begun ends left =
    let low : from ≤ left.moment = left.begun in
    let high : left.moment ≤ to = left.ended in
    both_ways (is_within run left.moment) (or_parts (is_within run left.moment) (cover all left.moment) left.not_in_all).0 (inside run left.moment (omega arith) (omega arith))

pub none_left_of_own : (run : Span) (all own : List Span) (from to : ℕ) → run.first ≤ from → to ≤ run.last → IsLeft all (run ∷ own) from to → ⊥
none_left_of_own run all own from to begun ends left = none_left_of_all run own all from to begun ends (turned all (run ∷ own) from to left)

pub none_begun : (t : ℕ) (run : Span) (rest runs : List Span) → runs ≡ run ∷ rest → t < run.first → BeginInOrder runs → cover runs t ≡ false
none_begun t run rest runs is lt order =
    let P : List Span → Type 0 = λ all. BeginInOrder all in
    ap (λ (all : List Span). cover all t) is ∙ before_the_first t run rest lt (subst P is order)

-- the walk begins
pub goes_from_the_start : (all own : List Span) (from to : ℕ) → Goes all own from all own from to
goes_from_the_start all own from to = record { back = λ left. left; on = λ left. left }

-- and goes on by one run
pub goes_on : (all own middle_all middle_own all_left own_left : List Span) (from middle at to : ℕ) → Goes all own from middle_all middle_own middle to → Goes middle_all middle_own middle all_left own_left at to → Goes all own from all_left own_left at to
goes_on all own middle_all middle_own all_left own_left from middle at to first second = record {
  back = λ left. first.back (second.back left);
  on = λ left. second.on (first.on left);
}

-- what holds at each run that the walk comes to
pub record Walks (all own : List Span) (from : ℕ) (all_left own_left : List Span) (at to : ℕ) : Type 0 where
  pub ordered : at ≤ to
  pub of_all : BeginInOrder all_left
  pub of_one : BeginInOrder own_left
  pub goes : Goes all own from all_left own_left at to

tail_in_order : (run : Span) (rest runs : List Span) → runs ≡ run ∷ rest → BeginInOrder runs → BeginInOrder rest
tail_in_order run rest runs is order =
    let P : List Span → Type 0 = λ all. BeginInOrder all in
    let whole : BeginInOrder (run ∷ rest) = subst P is order in
    whole.1

pub walks_past_all : (all own : List Span) (from : ℕ) (all_left own_left rest : List Span) (run : Span) (at to : ℕ) → all_left ≡ run ∷ rest → run.first ≤ at → run.last < to → Walks all own from all_left own_left at to → Walks all own from rest own_left (max at (run.last + 1)) to
walks_past_all all own from all_left own_left rest run at to is begun ends walks =
    let P : List Span → Type 0 = λ left. Goes all own from left own_left at to in
    let low : at ≤ to = walks.ordered in
    record {
      ordered = omega arith;
      of_all = tail_in_order run rest all_left is walks.of_all;
      of_one = walks.of_one;
      goes = goes_on all own (run ∷ rest) own_left rest own_left from at (max at (run.last + 1)) to (subst P is walks.goes) (goes_past_all run rest own_left at to begun);
    }

pub walks_past_own : (all own : List Span) (from : ℕ) (all_left own_left rest : List Span) (run : Span) (at to : ℕ) → own_left ≡ run ∷ rest → run.first ≤ at → run.last < to → Walks all own from all_left own_left at to → Walks all own from all_left rest (max at (run.last + 1)) to
walks_past_own all own from all_left own_left rest run at to is begun ends walks =
    let P : List Span → Type 0 = λ left. Goes all own from all_left left at to in
    let low : at ≤ to = walks.ordered in
    record {
      ordered = omega arith;
      of_all = walks.of_all;
      of_one = tail_in_order run rest own_left is walks.of_one;
      goes = goes_on all own all_left (run ∷ rest) all_left rest from at (max at (run.last + 1)) to (subst P is walks.goes) (goes_past_own run all_left rest at to begun);
    }

-- the same walk, at places that are equal
pub walks_same : (all own : List Span) (from : ℕ) (a b k l : List Span) (at same to : ℕ) → k ≡ a → l ≡ b → same ≡ at → Walks all own from a b at to → Walks all own from k l same to
walks_same all own from a b k l at same to e f g walks =
    subst (λ x. Walks all own from x l same to) (sym e) (subst (λ x. Walks all own from a x same to) (sym f) (subst (λ x. Walks all own from a b x to) (sym g) walks))
