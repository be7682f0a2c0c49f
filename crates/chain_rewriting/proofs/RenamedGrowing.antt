-- What is told passes on, and a renaming comes to be apart from a chain move by move.
use Rattle.std.proofs.Common.{◌≡◌, ◌≢◌, ℕ, zero, suc, ◌-◌, inl, inr, ◌⊎◌, List, [], ◌∷◌, length, get_or, replicate, true, Option, Some, None, refl, sym, ap, ◌∙◌, arith}
use Rattle.std.proofs.Math.ListN.{set, length-set, get_or-eq_default}
use Rattle.std.specs.Prelude.{IfSome}
use Rattle.std.specs.List.{AllByRecursion}
use Rattle.std.proofs.lemmas.List.{get_or-set_same, get_or-set_other}
use Rattle.std.proofs.lemmas.Bool.{cases_eq, cases_lt, both_ways}
use Rattle.s4_types.specs.Pointer.{Place}
use Rattle.codec.specs.declared.inodes.Inode.{Inode}
use Rattle.codec.specs.declared.entries.Triple.{Triple}
use Rattle.codec.specs.Checkpoint.{pointer_at}
use Rattle.codec.specs.Entry.{EntryFields}
use Rattle.inode.proofs.Standing.{replicate_hole}
use Rattle.chain_rewriting.specs.CleaningLaws.{TellsWithin}
use Rattle.chain_rewriting.specs.Renaming.{RenamingFields, no_moves, with_move, move_of}
use Rattle.chain_rewriting.specs.Apart.{Passes, ToldWithin, IsNotNew}
use Rattle.chain_rewriting.specs.Places.{WhatIsToldPassesToo, NothingMovesYet, NoPlacesAreDistinct, NoPlacesAnswerAlike, OneMoreMoves, PlacesStayDistinct, NewPlacesAnswerAlike, ATestTellsApart}
use Rattle.chain_rewriting.proofs.Told.{SidesWithin}

-- ---- what is told passes on

slot_on : (A B : Place → Type 0) (slot : Option Place) → ((p : Place) → A p → B p) → IfSome slot A → IfSome slot B
slot_on A B None so h = tt
slot_on A B (Some p) so h = so p h

triples_on : (A B : Place → Type 0) (triples : List Triple) → ((p : Place) → A p → B p) → SidesWithin A triples → SidesWithin B triples
triples_on A B [] so h = tt
triples_on A B (t ∷ triples) so h = ((slot_on A B t.before so h.0.0, slot_on A B t.after so h.0.1), triples_on A B triples so h.1)

entries_on : (A B : Place → Type 0) (entries : List EntryFields) → ((p : Place) → A p → B p) → AllByRecursion (TellsWithin A) entries → AllByRecursion (TellsWithin B) entries
entries_on A B [] so h = tt
entries_on A B (e ∷ entries) so h = (triples_on A B e.triples so h.0, entries_on A B entries so h.1)

told_on : (A B : Place → Type 0) (i : Inode) (entries : List EntryFields) → ((p : Place) → A p → B p) → ToldWithin A i entries → ToldWithin B i entries
told_on A B i entries so h = record { pointers = λ k. slot_on A B (pointer_at i k) so (h.pointers k); sides = entries_on A B entries so h.sides }

pub passes_too : WhatIsToldPassesToo
passes_too test other i entries so h = told_on (Passes test) (Passes other) i entries so h

-- ---- the first renaming

pub nothing_moves : NothingMovesYet
unfolding no_moves
nothing_moves frame generation zero p h = cc
nothing_moves frame generation (suc n) p h = let none : get_or {A = Option Place} (replicate 15 None) n None ≡ None = replicate_hole 15 n in cc

pub none_distinct : NoPlacesAreDistinct
none_distinct frame generation m n p at too = absurd (nothing_moves frame generation m p at)

pub none_lead : NoPlacesAnswerAlike
none_lead test answer frame generation n p at = absurd (nothing_moves frame generation n p at)

-- ---- one more move

pub one_more : OneMoreMoves
one_more r zero n to count least most = absurd (omega arith)
one_more r (suc b) n to count least most =
    let e : suc b - 1 ≡ b = omega arith in
    let here : move_of (with_move r (suc b) to) (suc b) ≡ Some to = ap (λ (k : ℕ). get_or (set r.moves k (Some to)) b None) e ∙ get_or-set_same r.moves b (Some to) None (omega arith) in
    (here, others r b n to)
  where
    others : (r : RenamingFields) (b n : ℕ) (to : Place) → n ≢ suc b → move_of (with_move r (suc b) to) n ≡ move_of r n
    others r b zero to other = refl
    others r b (suc m) to other =
        let e : suc b - 1 ≡ b = omega arith in
        ap (λ (k : ℕ). get_or (set r.moves k (Some to)) m None) e ∙ get_or-set_other r.moves b m (Some to) None (λ (is : m ≡ b). other (ap (λ (k : ℕ). suc k) is))

-- a move of the renaming with one more is that one, or an old one
abbrev pub IsThatOrOld : RenamingFields → ℕ → Place → ℕ → Place → Type 0
IsThatOrOld r block to n p = ((p ≡ to) × (n ≡ suc (block - 1))) ⊎ (move_of r n ≡ Some p)

that_or_old : (r : RenamingFields) (block : ℕ) (to : Place) (n : ℕ) (p : Place) → move_of (with_move r block to) n ≡ Some p → IsThatOrOld r block to n p
that_or_old r block to zero p h = absurd (cc)
that_or_old r block to (suc m) p h = elim (cases_eq m (block - 1)) [
  | inl here ↦ elim (cases_lt m (length r.moves)) [
    | inl there ↦ (let at : get_or (set r.moves m (Some to)) m None ≡ Some to = get_or-set_same r.moves m (Some to) None there in
        let is : get_or (set r.moves m (Some to)) m None ≡ Some p = ap (λ (k : ℕ). get_or (set r.moves k (Some to)) m None) here ∙ h in
        let same : Some to ≡ Some p = sym at ∙ is in
        inl (cc, ap (λ (k : ℕ). suc k) here))
    | inr past ↦ (let none : get_or (set r.moves (block - 1) (Some to)) m None ≡ None = get_or-eq_default (set r.moves (block - 1) (Some to)) None (omega (arith, length-set r.moves (block - 1) (Some to))) in absurd (cc))
  ]
  | inr other ↦ inr (sym (get_or-set_other r.moves (block - 1) m (Some to) None other) ∙ h)
]

pub leads_on : NewPlacesAnswerAlike
leads_on test answer r block to leads is n p h = elim (that_or_old r block to n p h) [
  | inl that ↦ ap test that.0 ∙ is
  | inr was ↦ leads n p was
]

pub still_distinct : PlacesStayDistinct
still_distinct r block to distinct fresh m n p at too = elim (that_or_old r block to m p at) [
  | inl that ↦ elim (that_or_old r block to n p too) [
    | inl both ↦ that.1 ∙ sym both.1
    | inr was ↦ absurd (fresh n (was ∙ ap (λ (z : Place). Some z) that.0))
  ]
  | inr old ↦ elim (that_or_old r block to n p too) [
    | inl that ↦ absurd (fresh m (old ∙ ap (λ (z : Place). Some z) that.0))
    | inr was ↦ distinct m n p old was
  ]
]

pub told_apart : ATestTellsApart
told_apart test r first entries distinct leads told =
    let so : (p : Place) → test p ≡ true → IsNotNew r p = λ p passes n h. both_ways (test p) (leads n p h) passes in
    record { distinct = distinct; told = told_on (Passes test) (IsNotNew r) first entries so told }
