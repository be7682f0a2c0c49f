-- Groups of entries of one moment, parted and joined.
use Rattle.std.proofs.Common.{◌≡◌, ℕ, ◌≤◌, ◌<◌, ◌+◌, ◌==◌, ◌&&◌, Bool, true, false, leb, ltb, inl, inr, List, [], ◌∷◌, ◌++◌, refl, sym, ◌∙◌, arith}
use Rattle.std.proofs.lemmas.Bool.{cases_Bool, and_parts, and_from, leb-true, leb-false, le-leb, lt-ltb, ltb-true, ne_eqb, eqb-true, cond-true, cond-false}
use Rattle.s4_types.specs.declared.limits.TheConstants.{CHANGE_ENTRIES}
use Rattle.codec.specs.Entry.{EntryFields}
use Rattle.undo_redo.specs.Runs.{AllBy, AllPast, moments_ascend_from}
use Rattle.undo_redo.specs.Groups.{continues, grouped_behind, grouped}

-- the two ways on
abbrev Same : ℕ → EntryFields → EntryFields → List EntryFields → Bool
Same count e f entries = (ltb count CHANGE_ENTRIES && continues e f) && grouped_behind (count + 1) f entries

abbrev Later : EntryFields → EntryFields → List EntryFields → Bool
Later e f entries = ltb e.moment f.moment && grouped_behind 1 f entries

pub front_grouped : (count : ℕ) (e : EntryFields) (front back : List EntryFields) → grouped_behind count e (front ++ back) ≡ true → grouped_behind count e front ≡ true
front_grouped count e [] back h = refl
front_grouped count e (f ∷ front) back h = elim (cases_Bool (e.moment == f.moment)) [
  | inl is ↦ (let whole : Same count e f (front ++ back) ≡ true = sym (cond-true (e.moment == f.moment) (Same count e f (front ++ back)) (Later e f (front ++ back)) is) ∙ h in
      let parts = and_parts (ltb count CHANGE_ENTRIES && continues e f) (grouped_behind (count + 1) f (front ++ back)) whole in
      cond-true (e.moment == f.moment) (Same count e f front) (Later e f front) is ∙ and_from (ltb count CHANGE_ENTRIES && continues e f) (grouped_behind (count + 1) f front) parts.0 (front_grouped (count + 1) f front back parts.1))
  | inr ne ↦ (let whole : Later e f (front ++ back) ≡ true = sym (cond-false (e.moment == f.moment) (Same count e f (front ++ back)) (Later e f (front ++ back)) ne) ∙ h in
      let parts = and_parts (ltb e.moment f.moment) (grouped_behind 1 f (front ++ back)) whole in
      cond-false (e.moment == f.moment) (Same count e f front) (Later e f front) ne ∙ and_from (ltb e.moment f.moment) (grouped_behind 1 f front) parts.0 (front_grouped 1 f front back parts.1))
]

pub grouped_front : (front back : List EntryFields) → grouped (front ++ back) ≡ true → grouped front ≡ true
grouped_front [] back h = refl
grouped_front (e ∷ front) back h = front_grouped 1 e front back h

-- what may be the many-th of its moment may be an earlier one
fewer : (few many : ℕ) (e : EntryFields) (entries : List EntryFields) → few ≤ many → grouped_behind many e entries ≡ true → grouped_behind few e entries ≡ true
fewer few many e [] le h = refl
fewer few many e (f ∷ entries) le h = elim (cases_Bool (e.moment == f.moment)) [
  | inl is ↦ (let whole : Same many e f entries ≡ true = sym (cond-true (e.moment == f.moment) (Same many e f entries) (Later e f entries) is) ∙ h in
      let parts = and_parts (ltb many CHANGE_ENTRIES && continues e f) (grouped_behind (many + 1) f entries) whole in
      let lead = and_parts (ltb many CHANGE_ENTRIES) (continues e f) parts.0 in
      let room : many < CHANGE_ENTRIES = ltb-true many CHANGE_ENTRIES lead.0 in
      cond-true (e.moment == f.moment) (Same few e f entries) (Later e f entries) is ∙ and_from (ltb few CHANGE_ENTRIES && continues e f) (grouped_behind (few + 1) f entries) (and_from (ltb few CHANGE_ENTRIES) (continues e f) (lt-ltb few CHANGE_ENTRIES (omega arith)) lead.1) (fewer (few + 1) (many + 1) f entries (omega arith) parts.1))
  | inr ne ↦ (let whole : Later e f entries ≡ true = sym (cond-false (e.moment == f.moment) (Same many e f entries) (Later e f entries) ne) ∙ h in
      cond-false (e.moment == f.moment) (Same few e f entries) (Later e f entries) ne ∙ whole)
]

back_grouped : (count : ℕ) (e : EntryFields) (front back : List EntryFields) → 1 ≤ count → grouped_behind count e (front ++ back) ≡ true → grouped back ≡ true
back_grouped count e [] [] one h = refl
back_grouped count e [] (f ∷ back) one h = elim (cases_Bool (e.moment == f.moment)) [
  | inl is ↦ (let whole : Same count e f back ≡ true = sym (cond-true (e.moment == f.moment) (Same count e f back) (Later e f back) is) ∙ h in
      let parts = and_parts (ltb count CHANGE_ENTRIES && continues e f) (grouped_behind (count + 1) f back) whole in
      fewer 1 (count + 1) f back (omega arith) parts.1)
  | inr ne ↦ (let whole : Later e f back ≡ true = sym (cond-false (e.moment == f.moment) (Same count e f back) (Later e f back) ne) ∙ h in
      (and_parts (ltb e.moment f.moment) (grouped_behind 1 f back) whole).1)
]
back_grouped count e (f ∷ front) back one h = elim (cases_Bool (e.moment == f.moment)) [
  | inl is ↦ (let whole : Same count e f (front ++ back) ≡ true = sym (cond-true (e.moment == f.moment) (Same count e f (front ++ back)) (Later e f (front ++ back)) is) ∙ h in
      back_grouped (count + 1) f front back (omega arith) (and_parts (ltb count CHANGE_ENTRIES && continues e f) (grouped_behind (count + 1) f (front ++ back)) whole).1)
  | inr ne ↦ (let whole : Later e f (front ++ back) ≡ true = sym (cond-false (e.moment == f.moment) (Same count e f (front ++ back)) (Later e f (front ++ back)) ne) ∙ h in
      back_grouped 1 f front back (omega arith) (and_parts (ltb e.moment f.moment) (grouped_behind 1 f (front ++ back)) whole).1)
]

pub grouped_back : (front back : List EntryFields) → grouped (front ++ back) ≡ true → grouped back ≡ true
grouped_back [] back h = h
grouped_back (e ∷ front) back h = back_grouped 1 e front back (omega arith) h

join_grouped : (m count : ℕ) (e : EntryFields) (front back : List EntryFields) → e.moment ≤ m → grouped_behind count e front ≡ true → grouped back ≡ true → AllBy m front → AllPast m back → grouped_behind count e (front ++ back) ≡ true
join_grouped m count e [] [] by h k all past = refl
join_grouped m count e [] (f ∷ back) by h k all past =
    let lt : m < f.moment = leb-false f.moment m past.0 in
    let ne : (e.moment == f.moment) ≡ false = ne_eqb e.moment f.moment (λ (is : e.moment ≡ f.moment). omega arith) in
    cond-false (e.moment == f.moment) (Same count e f back) (Later e f back) ne ∙ and_from (ltb e.moment f.moment) (grouped_behind 1 f back) (lt-ltb e.moment f.moment (omega arith)) k
join_grouped m count e (f ∷ front) back by h k all past =
    let le : f.moment ≤ m = leb-true f.moment m all.0 in
    elim (cases_Bool (e.moment == f.moment)) [
      | inl is ↦ (let whole : Same count e f front ≡ true = sym (cond-true (e.moment == f.moment) (Same count e f front) (Later e f front) is) ∙ h in
          let parts = and_parts (ltb count CHANGE_ENTRIES && continues e f) (grouped_behind (count + 1) f front) whole in
          cond-true (e.moment == f.moment) (Same count e f (front ++ back)) (Later e f (front ++ back)) is ∙ and_from (ltb count CHANGE_ENTRIES && continues e f) (grouped_behind (count + 1) f (front ++ back)) parts.0 (join_grouped m (count + 1) f front back le parts.1 k all.1 past))
      | inr ne ↦ (let whole : Later e f front ≡ true = sym (cond-false (e.moment == f.moment) (Same count e f front) (Later e f front) ne) ∙ h in
          let parts = and_parts (ltb e.moment f.moment) (grouped_behind 1 f front) whole in
          cond-false (e.moment == f.moment) (Same count e f (front ++ back)) (Later e f (front ++ back)) ne ∙ and_from (ltb e.moment f.moment) (grouped_behind 1 f (front ++ back)) parts.0 (join_grouped m 1 f front back le parts.1 k all.1 past))
    ]

pub grouped_join : (m : ℕ) (front back : List EntryFields) → grouped front ≡ true → grouped back ≡ true → AllBy m front → AllPast m back → grouped (front ++ back) ≡ true
grouped_join m [] back h k all past = k
grouped_join m (e ∷ front) back h k all past = join_grouped m 1 e front back (leb-true e.moment m all.0) h k all.1 past

behind_ascends : (count : ℕ) (e : EntryFields) (entries : List EntryFields) → grouped_behind count e entries ≡ true → moments_ascend_from e.moment entries ≡ true
behind_ascends count e [] h = refl
behind_ascends count e (f ∷ entries) h = elim (cases_Bool (e.moment == f.moment)) [
  | inl is ↦ (let whole : Same count e f entries ≡ true = sym (cond-true (e.moment == f.moment) (Same count e f entries) (Later e f entries) is) ∙ h in
      let same : e.moment ≡ f.moment = eqb-true e.moment f.moment is in
      and_from (leb e.moment f.moment) (moments_ascend_from f.moment entries) (le-leb e.moment f.moment (omega arith)) (behind_ascends (count + 1) f entries (and_parts (ltb count CHANGE_ENTRIES && continues e f) (grouped_behind (count + 1) f entries) whole).1))
  | inr ne ↦ (let whole : Later e f entries ≡ true = sym (cond-false (e.moment == f.moment) (Same count e f entries) (Later e f entries) ne) ∙ h in
      let parts = and_parts (ltb e.moment f.moment) (grouped_behind 1 f entries) whole in
      let lt : e.moment < f.moment = ltb-true e.moment f.moment parts.0 in
      and_from (leb e.moment f.moment) (moments_ascend_from f.moment entries) (le-leb e.moment f.moment (omega arith)) (behind_ascends 1 f entries parts.1))
]

pub grouped_ascends : (entries : List EntryFields) → grouped entries ≡ true → moments_ascend_from 0 entries ≡ true
grouped_ascends [] h = refl
grouped_ascends (e ∷ entries) h = and_from (leb 0 e.moment) (moments_ascend_from e.moment entries) (le-leb 0 e.moment (omega arith)) (behind_ascends 1 e entries h)
