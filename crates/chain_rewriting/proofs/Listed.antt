-- What a chain tells, as the list of its pointers.
use Rattle.std.proofs.Common.{◌≡◌, inl, inr, List, [], ◌∷◌, ◌++◌, map, length, Option, None, refl, sym, ap, subst, ◌∙◌, arith}
use Rattle.std.proofs.Math.ListN.{get_or-eq_default}
use Rattle.std.specs.Prelude.{IfSome}
use Rattle.std.specs.List.{All, AllByRecursion, flat_map}
use Rattle.std.proofs.lemmas.List.{map-append, get_or_default}
use Rattle.std.proofs.lemmas.List.Elements.{All-from_recursion, recursion_from_All}
use Rattle.std.proofs.lemmas.Bool.{cases_lt}
use Rattle.s4_types.specs.Pointer.{Place}
use Rattle.codec.specs.declared.inodes.Inode.{Inode}
use Rattle.codec.specs.declared.entries.Triple.{Triple}
use Rattle.codec.specs.Entry.{EntryFields}
use Rattle.chain_rewriting.specs.CleaningLaws.{PointsWithin, TellsWithin}
use Rattle.chain_rewriting.specs.Mapping.{mapped_slot, mapped_triple, mapped_entries}
use Rattle.chain_rewriting.specs.MappingLaws.{AMappedChainTellsInOrder}
use Rattle.chain_rewriting.specs.Apart.{Passes, ToldWithin, slots_told}
use Rattle.chain_rewriting.specs.Places.{WhatIsToldIsListed}
use Rattle.chain_rewriting.proofs.Told.{SidesWithin}

-- a hole, or a place of this kind
abbrev pub Led : (Place → Type 0) → Option Place → Type 0
Led Is slot = IfSome slot Is

abbrev pub both_sides : List Triple → List (Option Place)
both_sides triples = flat_map (λ t. t.before ∷ t.after ∷ []) triples

abbrev pub all_sides : List EntryFields → List (Option Place)
all_sides entries = flat_map (λ e. both_sides e.triples) entries

-- ---- in order

sides_in_order : (f : Place → Place) (triples : List Triple) → both_sides (map (mapped_triple f) triples) ≡ map (mapped_slot f) (both_sides triples)
sides_in_order f [] = refl
sides_in_order f (t ∷ triples) = ap (λ (slots : List (Option Place)). mapped_slot f t.before ∷ mapped_slot f t.after ∷ slots) (sides_in_order f triples)

all_in_order : (f : Place → Place) (entries : List EntryFields) → all_sides (mapped_entries f entries) ≡ map (mapped_slot f) (all_sides entries)
all_in_order f [] = refl
all_in_order f (e ∷ entries) =
    ap (λ (slots : List (Option Place)). slots ++ all_sides (mapped_entries f entries)) (sides_in_order f e.triples)
    ∙ ap (λ (slots : List (Option Place)). map (mapped_slot f) (both_sides e.triples) ++ slots) (all_in_order f entries)
    ∙ sym (map-append (mapped_slot f) (both_sides e.triples) (all_sides entries))

pub told_in_order : (f : Place → Place) → AMappedChainTellsInOrder f
told_in_order f i entries =
    ap (λ (slots : List (Option Place)). map (mapped_slot f) i.pointers ++ slots) (all_in_order f entries) ∙ sym (map-append (mapped_slot f) i.pointers (all_sides entries))

-- ---- listed

-- what holds of each of two lists holds of both in a row, and back
rec_join : (P : Option Place → Type 0) (front back : List (Option Place)) → AllByRecursion P front → AllByRecursion P back → AllByRecursion P (front ++ back)
rec_join P [] back h k = k
rec_join P (s ∷ front) back h k = (h.0, rec_join P front back h.1 k)

rec_front : (P : Option Place → Type 0) (front back : List (Option Place)) → AllByRecursion P (front ++ back) → AllByRecursion P front
rec_front P [] back h = tt
rec_front P (s ∷ front) back h = (h.0, rec_front P front back h.1)

rec_back : (P : Option Place → Type 0) (front back : List (Option Place)) → AllByRecursion P (front ++ back) → AllByRecursion P back
rec_back P [] back h = h
rec_back P (s ∷ front) back h = rec_back P front back h.1

sides_listed : (Is : Place → Type 0) (triples : List Triple) → SidesWithin Is triples → AllByRecursion (Led Is) (both_sides triples)
sides_listed Is [] h = tt
sides_listed Is (t ∷ triples) h = (h.0.0, (h.0.1, sides_listed Is triples h.1))

sides_told : (Is : Place → Type 0) (triples : List Triple) → AllByRecursion (Led Is) (both_sides triples) → SidesWithin Is triples
sides_told Is [] h = tt
sides_told Is (t ∷ triples) h = ((h.0, h.1.0), sides_told Is triples h.1.1)

entries_listed : (Is : Place → Type 0) (entries : List EntryFields) → AllByRecursion (TellsWithin Is) entries → AllByRecursion (Led Is) (all_sides entries)
entries_listed Is [] h = tt
entries_listed Is (e ∷ entries) h = rec_join (Led Is) (both_sides e.triples) (all_sides entries) (sides_listed Is e.triples h.0) (entries_listed Is entries h.1)

entries_told : (Is : Place → Type 0) (entries : List EntryFields) → AllByRecursion (Led Is) (all_sides entries) → AllByRecursion (TellsWithin Is) entries
entries_told Is [] h = tt
entries_told Is (e ∷ entries) h = (sides_told Is e.triples (rec_front (Led Is) (both_sides e.triples) (all_sides entries) h), entries_told Is entries (rec_back (Led Is) (both_sides e.triples) (all_sides entries) h))

pointers_listed : (Is : Place → Type 0) (i : Inode) → PointsWithin Is i → All (Led Is) i.pointers
pointers_listed Is i h k d lt = subst (λ (slot : Option Place). Led Is slot) (get_or_default i.pointers k None d lt) (h k)

pointers_told : (Is : Place → Type 0) (i : Inode) → All (Led Is) i.pointers → PointsWithin Is i
pointers_told Is i h k = elim (cases_lt k (length i.pointers)) [
  | inl lt ↦ h k None lt
  | inr past ↦ subst (λ (slot : Option Place). Led Is slot) (sym (get_or-eq_default i.pointers None (omega arith))) tt
]

pub listed : WhatIsToldIsListed
listed test i entries = (
  λ (h : ToldWithin (Passes test) i entries). All-from_recursion (Led (Passes test)) (slots_told i entries) (rec_join (Led (Passes test)) i.pointers (all_sides entries) (recursion_from_All (Led (Passes test)) i.pointers (pointers_listed (Passes test) i h.pointers)) (entries_listed (Passes test) entries h.sides)),
  λ (h : All (Led (Passes test)) (slots_told i entries)).
      let each = recursion_from_All (Led (Passes test)) (slots_told i entries) h in
      record {
        pointers = pointers_told (Passes test) i (All-from_recursion (Led (Passes test)) i.pointers (rec_front (Led (Passes test)) i.pointers (all_sides entries) each));
        sides = entries_told (Passes test) entries (rec_back (Led (Passes test)) i.pointers (all_sides entries) each);
      },
)
