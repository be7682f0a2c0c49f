-- Where blocks go, by the places that they come from.
use Rattle.std.proofs.Common.{◌≡◌, ℕ, ◌≤◌, Bool, true, false, List, [], ◌∷◌, length, map, Option, inl, inr, refl, sym, ap, subst, ◌∙◌, arith}
use Rattle.std.specs.Prelude.{◌||◌}
use Rattle.std.specs.List.{AllByRecursion}
use Rattle.std.proofs.lemmas.Bool.{cases_Bool, cond-true, cond-false, or_cases, or_left, or_right, both_ways}
use Rattle.s4_types.specs.Pointer.{Place}
use Rattle.block_log.specs.Log.{Stored, of_kind, same_place}
use Rattle.block_log.specs.declared.kinds.BlockKind.TheVariants.{Data}
use Rattle.block_log.proofs.Places.{same_place_itself}
use Rattle.checkpoint.specs.Held.{is_one_of}
use Rattle.chain_rewriting.specs.Apart.{Passes}
use Rattle.chain_rewriting.specs.Mapping.{IsOneToOne}
use Rattle.migration.specs.declared.moves.Move.{Move}
use Rattle.migration.specs.Moves.{moved_by, is_moved, moves_to, new_places}
use Rattle.migration.specs.private.Copying.{AreApart, IsCopied, IsUsedData}

abbrev pub OnePlace : Type 0
OnePlace = (p q : Place) → same_place p q ≡ true → p ≡ q

-- the places that blocks come from
abbrev pub old_places : List Move → List Place
old_places moves = map (λ m. m.from) moves

pub from_places : (places ahead : List Place) → length places ≤ length ahead → old_places (moves_to places ahead) ≡ places
from_places [] ahead fits = refl
from_places (p ∷ places) [] fits = absurd (omega (arith, fits))
from_places (p ∷ places) (q ∷ ahead) fits = ap (λ (x : List Place). p ∷ x) (from_places places ahead (omega (arith, fits)))

pub moved_is : (moves : List Move) (p : Place) → is_moved moves p ≡ is_one_of (old_places moves) p
moved_is [] p = refl
moved_is (m ∷ moves) p = ap (λ (b : Bool). same_place m.from p || b) (moved_is moves p)

goes_here : (m : Move) (moves : List Move) (p : Place) → same_place m.from p ≡ true → moved_by (m ∷ moves) p ≡ m.to
goes_here m moves p is = cond-true (same_place m.from p) m.to (moved_by moves p) is

goes_on : (m : Move) (moves : List Move) (p : Place) → same_place m.from p ≡ false → moved_by (m ∷ moves) p ≡ moved_by moves p
goes_on m moves p not = cond-false (same_place m.from p) m.to (moved_by moves p) not

moved_rest : (m : Move) (moves : List Move) (p : Place) → is_moved (m ∷ moves) p ≡ true → same_place m.from p ≡ false → is_moved moves p ≡ true
moved_rest m moves p is not = elim (or_cases (same_place m.from p) (is_moved moves p) is) [
  | inl here ↦ absurd (both_ways (same_place m.from p) not here)
  | inr later ↦ later
]

-- a block that goes somewhere goes to one of the new places
pub goes_to_one : (moves : List Move) (p : Place) → is_moved moves p ≡ true → is_one_of (new_places moves) (moved_by moves p) ≡ true
goes_to_one [] p is = absurd (cc)
goes_to_one (m ∷ moves) p is = elim (cases_Bool (same_place m.from p)) [
  | inl here ↦ subst (λ (q : Place). is_one_of (new_places (m ∷ moves)) q ≡ true) (sym (goes_here m moves p here)) (or_left (same_place m.to m.to) (is_one_of (new_places moves) m.to) (same_place_itself m.to))
  | inr not ↦ subst (λ (q : Place). is_one_of (new_places (m ∷ moves)) q ≡ true) (sym (goes_on m moves p not))
      (or_right (same_place m.to (moved_by moves p)) (is_one_of (new_places moves) (moved_by moves p)) (goes_to_one moves p (moved_rest m moves p is not)))
]

-- two blocks of different places don't go to one
apart_first : (m : Move) (moves : List Move) (q : Place) → is_one_of (new_places moves) m.to ≡ false → is_moved moves q ≡ true → m.to ≡ moved_by moves q → ⊥
apart_first m moves q none is same = both_ways (is_one_of (new_places moves) m.to) none (subst (λ (x : Place). is_one_of (new_places moves) x ≡ true) (sym same) (goes_to_one moves q is))

pub one_to_one : OnePlace → (moves : List Move) → AreApart (new_places moves) → IsOneToOne (Passes (is_moved moves)) (moved_by moves)
one_to_one one [] apart p q is there same = absurd (cc)
one_to_one one (m ∷ moves) apart p q is there same = elim (cases_Bool (same_place m.from p)) [
  | inl here ↦ elim (cases_Bool (same_place m.from q)) [
    | inl too ↦ sym (one m.from p here) ∙ one m.from q too
    | inr not ↦ absurd (apart_first m moves q apart.0 (moved_rest m moves q there not) (sym (goes_here m moves p here) ∙ same ∙ goes_on m moves q not))
  ]
  | inr not ↦ elim (cases_Bool (same_place m.from q)) [
    | inl too ↦ absurd (apart_first m moves p apart.0 (moved_rest m moves p is not) (sym (goes_here m moves q too) ∙ sym same ∙ goes_on m moves p not))
    | inr neither ↦ one_to_one one moves apart.1 p q (moved_rest m moves p is not) (moved_rest m moves q there neither) (sym (goes_on m moves p not) ∙ same ∙ goes_on m moves q neither)
  ]
]

-- the block of each place is a copy
pub copied_at : OnePlace → (used held : Place → Option Stored) (o : ℕ) (moves : List Move) (p : Place) → AllByRecursion (IsCopied used held o) moves → is_moved moves p ≡ true
    → IsUsedData used o p × (of_kind Data o held (moved_by moves p) ≡ of_kind Data o used p)
copied_at one used held o [] p all is = absurd (cc)
copied_at one used held o (m ∷ moves) p all is = elim (cases_Bool (same_place m.from p)) [
  | inl here ↦ subst (λ (q : Place). IsUsedData used o q × (of_kind Data o held (moved_by (m ∷ moves) p) ≡ of_kind Data o used q)) (one m.from p here)
      (all.0.there, ap (λ (q : Place). of_kind Data o held q) (goes_here m moves p here) ∙ all.0.same)
  | inr not ↦ (let rest = copied_at one used held o moves p all.1 (moved_rest m moves p is not) in
      (rest.0, ap (λ (q : Place). of_kind Data o held q) (goes_on m moves p not) ∙ rest.1))
]

-- each new place is where the block of some place goes
pub record ComesFrom (moves : List Move) (q : Place) : Type 0 where
  pub place : Place
  pub moved : is_moved moves place ≡ true
  pub goes : moved_by moves place ≡ q

pub comes_from : OnePlace → (moves : List Move) (q : Place) → AreApart (old_places moves) → is_one_of (new_places moves) q ≡ true → ComesFrom moves q
comes_from one [] q apart is = absurd (cc)
comes_from one (m ∷ moves) q apart is = elim (or_cases (same_place m.to q) (is_one_of (new_places moves) q) is) [
  | inl here ↦ record {
    place = m.from;
    moved = or_left (same_place m.from m.from) (is_moved moves m.from) (same_place_itself m.from);
    goes = goes_here m moves m.from (same_place_itself m.from) ∙ one m.to q here;
  }
  | inr later ↦ (let rest = comes_from one moves q apart.1 later in
      let not : same_place m.from rest.place ≡ false = elim (cases_Bool (same_place m.from rest.place)) [
        | inl same ↦ absurd (both_ways (is_one_of (old_places moves) m.from) apart.0 (subst (λ (x : Place). is_one_of (old_places moves) x ≡ true) (sym (one m.from rest.place same)) (sym (moved_is moves rest.place) ∙ rest.moved)))
        | inr other ↦ other
      ] in
      record {
        place = rest.place;
        moved = or_right (same_place m.from rest.place) (is_moved moves rest.place) rest.moved;
        goes = goes_on m moves rest.place not ∙ rest.goes;
      })
]
