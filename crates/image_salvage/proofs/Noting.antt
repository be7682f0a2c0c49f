-- The newest notes, block by block.
use Rattle.std.proofs.Common.{◌≡◌, inl, inr, ℕ, ◌+◌, ◌*◌, ◌<◌, ◌≤◌, ◌==◌, ◌&&◌, not, if◌then◌else◌, Bool, true, false, List, [], ◌∷◌, get_or, Option, Some, None, refl, sym, ap, subst, ◌∙◌, arith}
use Rattle.std.specs.Prelude.{MatchOption}
use Rattle.std.proofs.lemmas.Bool.{cases_eq, cases_Bool, both_ways, eqb-true, eqb-false}
use Rattle.std.proofs.lemmas.Bool.Decides.{nat_tests}
use Rattle.s4_types.specs.Pointer.{Place, IsPlace}
use Rattle.image_salvage.specs.declared.newest.Note.{Note}
use Rattle.block_log.specs.Log.{Stored}
use Rattle.image_salvage.specs.Newest.{order_of, AreGenerations, IsAt, is_below, age_of, is_newer, is_passed, with_newer, HasNone, IsNewest, AreNewest}

-- ---- the order of lists

not_below_self : (xs : List ℕ) → is_below xs xs ≡ false
not_below_self [] = refl
not_below_self (x ∷ xs) = let rest = not_below_self xs in grind (arith, nat_tests, rest)

-- one that isn't above a second is below each that the second is below
below_all : (xs ys zs : List ℕ) → is_below xs ys ≡ true → is_below xs zs ≡ false → is_below zs ys ≡ true
below_all [] [] zs is isnt = absurd (cc)
below_all [] (y ∷ ys) [] is isnt = refl
below_all [] (y ∷ ys) (z ∷ zs) is isnt = absurd (cc)
below_all (x ∷ xs) [] zs is isnt = absurd (cc)
below_all (x ∷ xs) (y ∷ ys) [] is isnt = refl
below_all (x ∷ xs) (y ∷ ys) (z ∷ zs) is isnt =
    let rest = below_all xs ys zs in
    elim (cases_Bool (is_below xs ys)) [
      | inl below ↦ (elim (cases_Bool (is_below xs zs)) [
        | inl above ↦ grind (arith, nat_tests, below, above)
        | inr other ↦ (let last = rest below other in grind (arith, nat_tests, below, other, last))
      ])
      | inr past ↦ (elim (cases_Bool (is_below xs zs)) [
        | inl above ↦ grind (arith, nat_tests, past, above)
        | inr other ↦ grind (arith, nat_tests, past, other)
      ])
    ]

-- of two lists one alone is below the other
below_once : (xs ys : List ℕ) → is_below xs ys ≡ true → is_below ys xs ≡ false
below_once [] [] is = absurd (cc)
below_once [] (y ∷ ys) is = refl
below_once (x ∷ xs) [] is = absurd (cc)
below_once (x ∷ xs) (y ∷ ys) is = elim (cases_Bool (is_below xs ys)) [
  | inl below ↦ (let last = below_once xs ys below in grind (arith, nat_tests, below, last))
  | inr other ↦ grind (arith, nat_tests, other)
]

-- what isn't newer than a note isn't newer than one that the note isn't newer than
not_newer_than : (k n m : Note) → is_newer k n ≡ false → is_newer n m ≡ false → is_newer k m ≡ false
not_newer_than k n m first next = elim (cases_Bool (is_newer k m)) [
  | inl newer ↦ absurd (both_ways (is_newer k n) first (below_all (age_of m) (age_of k) (age_of n) newer next))
  | inr other ↦ other
]

-- ---- places

-- places that come here in order are one
pub only_place : (generations : List ℕ) (n : ℕ) (p q : Place) → IsPlace p → IsPlace q → IsAt generations n p → IsAt generations n q → p ≡ q
only_place generations n p q is other at there =
    let lows : (p.block ≤ 15) × (q.block ≤ 15) = (is.highest_block, other.highest_block) in
    let orders : 16 * p.frame + p.block ≡ 16 * q.frame + q.block = at.0 ∙ sym there.0 in
    let frame : p.frame ≡ q.frame = omega (arith, lows.0, lows.1, orders) in
    let block : p.block ≡ q.block = omega (arith, frame, orders) in
    let generation : p.generation ≡ q.generation = at.1 ∙ ap (λ (f : ℕ). get_or generations f 0) frame ∙ sym there.1 in
    ap (λ (f : ℕ). record { frame = f; block = p.block; generation = p.generation }) frame
    ∙ ap (λ (b : ℕ). record { frame = q.frame; block = b; generation = p.generation }) block
    ∙ ap (λ (g : ℕ). record { frame = q.frame; block = q.block; generation = g }) generation

-- ---- one block more

none_more : (Makes : Place → Note → Type 0) (n o : ℕ) → HasNone Makes n o → ((p : Place) (note : Note) → IsPlace p → order_of p ≡ n → Makes p note → note.row.object ≡ o → ⊥) → HasNone Makes (n + 1) o
none_more Makes n o none here p note is low made object = elim (cases_eq (order_of p) n) [
  | inl at ↦ here p note is at made object
  | inr other ↦ none p note is (omega (arith, low, other)) made object
]

newest_more : (Makes : Place → Note → Type 0) (n o : ℕ) (note : Note) → IsNewest Makes n o note
    → ((p : Place) (other : Note) → IsPlace p → order_of p ≡ n → Makes p other → other.row.object ≡ o → is_newer other note ≡ false) → IsNewest Makes (n + 1) o note
newest_more Makes n o note newest here = record {
  place = newest.place;
  is_place = newest.is_place;
  below = (let low : order_of newest.place < n = newest.below in omega (arith, low));
  made = newest.made;
  object = newest.object;
  none_newer = λ p other is low made object. elim (cases_eq (order_of p) n) [
    | inl at ↦ here p other is at made object
    | inr ne ↦ newest.none_newer p other is (omega (arith, low, ne)) made object
  ];
}

more_by : (Makes : Place → Note → Type 0) (n o : ℕ) (found : Option Note) → MatchOption found (HasNone Makes n o) (IsNewest Makes n o)
    → ((p : Place) (note : Note) → IsPlace p → order_of p ≡ n → Makes p note → note.row.object ≡ o → ⊥) → MatchOption found (HasNone Makes (n + 1) o) (IsNewest Makes (n + 1) o)
more_by Makes n o None none here = none_more Makes n o none here
more_by Makes n o (Some note) newest here = newest_more Makes n o note newest (λ p other is at made object. absurd (here p other is at made object))

-- a block that makes no row
pub newest_without : (Makes : Place → Note → Type 0) (n : ℕ) (notes : ℕ → Option Note) → AreNewest Makes n notes → ((p : Place) (note : Note) → IsPlace p → order_of p ≡ n → Makes p note → ⊥) → AreNewest Makes (n + 1) notes
newest_without Makes n notes are none o = more_by Makes n o (notes o) (are o) (λ p note is at made object. none p note is at made)

-- one that makes this row, of its own object
offered_by : (Makes : Place → Note → Type 0) (n o : ℕ) (found : Option Note) (place : Place) (note : Note) (passed : Bool) → is_passed found note ≡ passed → MatchOption found (HasNone Makes n o) (IsNewest Makes n o) → IsPlace place
    → order_of place ≡ n → Makes place note → note.row.object ≡ o → ((p : Place) (other : Note) → IsPlace p → order_of p ≡ n → Makes p other → other ≡ note)
    → MatchOption (if not passed then Some note else found) (HasNone Makes (n + 1) o) (IsNewest Makes (n + 1) o)
offered_by Makes n o None place note true is none there at made object only = absurd (cc)
offered_by Makes n o None place note false is none there at made object only = record {
  place = place;
  is_place = there;
  below = omega (arith, at);
  made = made;
  object = object;
  none_newer = λ p other is low makes of. elim (cases_eq (order_of p) n) [
    | inl here ↦ ap (λ (m : Note). is_newer m note) (only p other is here makes) ∙ not_below_self (age_of note)
    | inr ne ↦ absurd (none p other is (omega (arith, low, ne)) makes of)
  ];
}
offered_by Makes n o (Some held) place note true is newest there at made object only =
    newest_more Makes n o held newest (λ p other of here makes own. ap (λ (m : Note). is_newer m held) (only p other of here makes) ∙ below_once (age_of note) (age_of held) is)
offered_by Makes n o (Some held) place note false is newest there at made object only = record {
  place = place;
  is_place = there;
  below = omega (arith, at);
  made = made;
  object = object;
  none_newer = λ p other of low makes own. elim (cases_eq (order_of p) n) [
    | inl here ↦ ap (λ (m : Note). is_newer m note) (only p other of here makes) ∙ not_below_self (age_of note)
    | inr ne ↦ not_newer_than other held note (newest.none_newer p other of (omega (arith, low, ne)) makes own) is
  ];
}

offered_to : (Makes : Place → Note → Type 0) (n o : ℕ) (found : Option Note) (place : Place) (note : Note) (own : Bool) → (note.row.object == o) ≡ own → MatchOption found (HasNone Makes n o) (IsNewest Makes n o) → IsPlace place
    → order_of place ≡ n → Makes place note → ((p : Place) (other : Note) → IsPlace p → order_of p ≡ n → Makes p other → other ≡ note)
    → MatchOption (if own && not (is_passed found note) then Some note else found) (HasNone Makes (n + 1) o) (IsNewest Makes (n + 1) o)
offered_to Makes n o found place note true own are there at made only = offered_by Makes n o found place note (is_passed found note) refl are there at made (eqb-true note.row.object o own) only
offered_to Makes n o found place note false own are there at made only = more_by Makes n o found are
    (λ p other is here makes object. eqb-false note.row.object o own (ap (λ (m : Note). m.row.object) (sym (only p other is here makes)) ∙ object))

-- a block that makes a row
pub newest_offered : (Makes : Place → Note → Type 0) (n : ℕ) (notes later : ℕ → Option Note) (place : Place) (note : Note) → AreNewest Makes n notes → IsPlace place → order_of place ≡ n → Makes place note
    → ((p : Place) (other : Note) → IsPlace p → order_of p ≡ n → Makes p other → other ≡ note) → ((o : ℕ) → later o ≡ with_newer notes note o) → AreNewest Makes (n + 1) later
newest_offered Makes n notes later place note are there at made only is o =
    subst (λ (found : Option Note). MatchOption found (HasNone Makes (n + 1) o) (IsNewest Makes (n + 1) o)) (sym (is o))
    (offered_to Makes n o (notes o) place note (note.row.object == o) refl (are o) there at made only)

pub none_noted : (Makes : Place → Note → Type 0) (notes : ℕ → Option Note) → ((o : ℕ) → notes o ≡ None) → AreNewest Makes 0 notes
none_noted Makes notes none o = subst (λ (found : Option Note). MatchOption found (HasNone Makes 0 o) (IsNewest Makes 0 o)) (sym (none o)) (λ p note is low made object. absurd (omega (arith, low)))

-- ---- which blocks are looked at

-- where a place comes here in order, and its block makes a row
at_place : (used : Place → Option Stored) (generations : List ℕ) (n : ℕ) (p : Place) (block : Stored) → AreGenerations used generations → order_of p ≡ n → used p ≡ Some block → IsAt generations n p
at_place used generations n p block known at held = (at, known p block held)

pub newest_nowhere : (Makes : Place → Note → Type 0) (used : Place → Option Stored) (generations : List ℕ) (n : ℕ) (notes : ℕ → Option Note) → AreGenerations used generations
    → ((p : Place) (note : Note) → Makes p note → (block : Stored) × (used p ≡ Some block)) → AreNewest Makes n notes → ((p : Place) → IsPlace p → IsAt generations n p → ⊥) → AreNewest Makes (n + 1) notes
newest_nowhere Makes used generations n notes known there are none =
    newest_without Makes n notes are (λ p note is at made. (let block = there p note made in none p is (at_place used generations n p block.0 known at block.1)))

pub newest_not_here : (Makes : Place → Note → Type 0) (used : Place → Option Stored) (generations : List ℕ) (n : ℕ) (notes : ℕ → Option Note) (place : Place) → AreGenerations used generations
    → ((p : Place) (note : Note) → Makes p note → (block : Stored) × (used p ≡ Some block)) → AreNewest Makes n notes → IsPlace place → IsAt generations n place → ((note : Note) → Makes place note → ⊥)
    → AreNewest Makes (n + 1) notes
newest_not_here Makes used generations n notes place known there are is here none =
    newest_without Makes n notes are (λ p note other at made. (let block = there p note made in
    none note (subst (λ (q : Place). Makes q note) (only_place generations n p place other is (at_place used generations n p block.0 known at block.1) here) made)))

pub newest_here : (Makes : Place → Note → Type 0) (used : Place → Option Stored) (generations : List ℕ) (n : ℕ) (notes later : ℕ → Option Note) (place : Place) (note : Note) → AreGenerations used generations
    → ((p : Place) (note : Note) → Makes p note → (block : Stored) × (used p ≡ Some block)) → ((p : Place) (note other : Note) → Makes p note → Makes p other → other ≡ note) → AreNewest Makes n notes → IsPlace place
    → IsAt generations n place → Makes place note → ((o : ℕ) → later o ≡ with_newer notes note o) → AreNewest Makes (n + 1) later
newest_here Makes used generations n notes later place note known there once are is here made taken =
    newest_offered Makes n notes later place note are is here.0 made
    (λ p other of at makes. (let block = there p other makes in
    once place note other made (subst (λ (q : Place). Makes q other) (only_place generations n p place of is (at_place used generations n p block.0 known at block.1) here) makes)))
    taken
