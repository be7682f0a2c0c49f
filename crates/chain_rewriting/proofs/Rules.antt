-- Entries keep the rules of entries where a map is one to one on their places, as renaming is on those that aren't new.
use Rattle.std.proofs.Common.{◌≡◌, ℕ, ◌+◌, ◌==◌, ◌&&◌, leb, ltb, Bool, true, cond, not, inl, inr, ◌⊎◌, List, [], ◌∷◌, map, Option, Some, None, refl, sym, ap, subst, ◌∙◌}
use Rattle.std.specs.Prelude.{IfSome, unwrap_or, is_none, ◌||◌}
use Rattle.std.specs.List.{AllByRecursion}
use Rattle.std.proofs.lemmas.List.{length-map}
use Rattle.std.proofs.lemmas.Bool.{cases_Bool, and_parts, and_from, eqb-true, eq-eqb, cond-true, cond-false, both_ways}
use Rattle.s4_types.specs.Pointer.{Place}
use Rattle.s4_types.specs.declared.limits.TheConstants.{OBJECT_BLOCKS, OBJECT_BYTES}
use Rattle.block_log.proofs.Places.{place_from_parts}
use Rattle.codec.specs.declared.entries.Status.{Status}
use Rattle.codec.specs.declared.entries.Pair.{Pair}
use Rattle.codec.specs.declared.entries.Triple.{Triple}
use Rattle.codec.specs.Entry.{EntryFields, same_slot, ascend_from, was_nothing, differs, changes_now, entry_rules, checked_entry}
use Rattle.codec.specs.Fields.{Reads, kept}
use Rattle.chain_rewriting.specs.CleaningLaws.{TellsWithin}
use Rattle.chain_rewriting.specs.Mapping.{mapped_slot, mapped_triple, mapped_entry, IsOneToOne}
use Rattle.chain_rewriting.specs.MappingLaws.{MappedEntriesKeepTheRules}
use Rattle.chain_rewriting.specs.Renaming.{RenamingFields, move_of, is_in, new_place, renamed}
use Rattle.chain_rewriting.specs.Apart.{HasDistinctPlaces, IsNotNew}
use Rattle.chain_rewriting.specs.RenamingLaws.{RenamedEntriesKeepTheRules}
use Rattle.chain_rewriting.specs.Places.{RenamingIsOneToOne}

-- ---- one to one

-- where a block moves, its place is in the frame, and the move is its block's
pub move_is : (r : RenamingFields) (p q : Place) → new_place r p ≡ Some q → (is_in r p ≡ true) × (move_of r p.block ≡ Some q)
move_is r p q h = elim (cases_Bool (is_in r p)) [
  | inl inside ↦ (inside, sym (cond-true (is_in r p) (move_of r p.block) None inside) ∙ h)
  | inr outside ↦ (let none : new_place r p ≡ None = cond-false (is_in r p) (move_of r p.block) None outside in absurd (cc))
]

pub slot_is : (o : Option Place) → (o ≡ None) ⊎ ((q : Place) × (o ≡ Some q))
slot_is None = inl refl
slot_is (Some q) = inr (q, refl)

pub renamed_stays : (r : RenamingFields) (p : Place) → new_place r p ≡ None → renamed r p ≡ p
renamed_stays r p h = ap (λ (o : Option Place). unwrap_or o p) h

pub renamed_moves : (r : RenamingFields) (p q : Place) → new_place r p ≡ Some q → renamed r p ≡ q
renamed_moves r p q h = ap (λ (o : Option Place). unwrap_or o p) h

both_move : (r : RenamingFields) (p q x y : Place) → HasDistinctPlaces r → new_place r p ≡ Some x → new_place r q ≡ Some y → renamed r p ≡ renamed r q → p ≡ q
both_move r p q x y distinct hp hq same =
    let a = move_is r p x hp in
    let b = move_is r q y hq in
    let one : x ≡ y = sym (renamed_moves r p x hp) ∙ same ∙ renamed_moves r q y hq in
    let block : p.block ≡ q.block = distinct p.block q.block y (a.1 ∙ ap (λ (z : Place). Some z) one) b.1 in
    let c = and_parts (p.frame == r.frame) (p.generation == r.generation) a.0 in
    let d = and_parts (q.frame == r.frame) (q.generation == r.generation) b.0 in
    place_from_parts p q (eqb-true p.frame r.frame c.0 ∙ sym (eqb-true q.frame r.frame d.0)) block (eqb-true p.generation r.generation c.1 ∙ sym (eqb-true q.generation r.generation d.1))

-- a place that stays isn't the new one of another
moves_on : (r : RenamingFields) (p q x : Place) → IsNotNew r q → new_place r p ≡ Some x → new_place r q ≡ None → renamed r p ≡ renamed r q → ⊥
moves_on r p q x old hp hq same =
    let one : x ≡ q = sym (renamed_moves r p x hp) ∙ same ∙ renamed_stays r q hq in
    old p.block ((move_is r p x hp).1 ∙ ap (λ (z : Place). Some z) one)

pub one_to_one : RenamingIsOneToOne
one_to_one r p q distinct hp hq same = elim (slot_is (new_place r p)) [
  | inl stays ↦ elim (slot_is (new_place r q)) [
    | inl too ↦ sym (renamed_stays r p stays) ∙ same ∙ renamed_stays r q too
    | inr moves ↦ absurd (moves_on r q p moves.0 hp moves.1 stays (sym same))
  ]
  | inr moves ↦ elim (slot_is (new_place r q)) [
    | inl stays ↦ absurd (moves_on r p q moves.0 hq moves.1 stays same)
    | inr both ↦ both_move r p q moves.0 both.0 distinct moves.1 both.1 same
  ]
]

pub renaming_is : (r : RenamingFields) → HasDistinctPlaces r → IsOneToOne (IsNotNew r) (renamed r)
renaming_is r distinct p q = one_to_one r p q distinct

-- ---- the rules

same_slot_places : (p q : Place) → same_slot (Some p) (Some q) ≡ true → p ≡ q
same_slot_places p q h =
    let a = and_parts (p.frame == q.frame) (p.block == q.block && p.generation == q.generation) h in
    let b = and_parts (p.block == q.block) (p.generation == q.generation) a.1 in
    place_from_parts p q (eqb-true p.frame q.frame a.0) (eqb-true p.block q.block b.0) (eqb-true p.generation q.generation b.1)

same_slot_own : (p : Place) → same_slot (Some p) (Some p) ≡ true
same_slot_own p = and_from (p.frame == p.frame) (p.block == p.block && p.generation == p.generation) (eq-eqb p.frame p.frame refl) (and_from (p.block == p.block) (p.generation == p.generation) (eq-eqb p.block p.block refl) (eq-eqb p.generation p.generation refl))

-- slots of the kind on which the map is one to one are the same exactly where the mapped ones are
same_mapped : (Is : Place → Type 0) (f : Place → Place) (a b : Option Place) → IsOneToOne Is f → IfSome a Is → IfSome b Is → same_slot (mapped_slot f a) (mapped_slot f b) ≡ same_slot a b
same_mapped Is f None None one ha hb = refl
same_mapped Is f None (Some q) one ha hb = refl
same_mapped Is f (Some p) None one ha hb = refl
same_mapped Is f (Some p) (Some q) one ha hb = elim (cases_Bool (same_slot (Some p) (Some q))) [
  | inl same ↦ (let is : p ≡ q = same_slot_places p q same in
      subst (λ (z : Place). same_slot (Some (f p)) (Some (f z)) ≡ true) is (same_slot_own (f p)) ∙ sym same)
  | inr other ↦ elim (cases_Bool (same_slot (Some (f p)) (Some (f q)))) [
    | inl same ↦ (let is : p ≡ q = one p q ha hb (same_slot_places (f p) (f q) same) in
        let own : same_slot (Some p) (Some q) ≡ true = subst (λ (z : Place). same_slot (Some p) (Some z) ≡ true) is (same_slot_own p) in
        absurd (both_ways (same_slot (Some p) (Some q)) other own))
    | inr too ↦ too ∙ sym other
  ]
]

ascend_mapped : (Is : Place → Type 0) (f : Place → Place) (low : ℕ) (triples : List Triple) → IsOneToOne Is f → AllByRecursion (λ t. IfSome t.before Is × IfSome t.after Is) triples → ascend_from low (map (mapped_triple f) triples) ≡ ascend_from low triples
unfolding ascend_from
ascend_mapped Is f low [] one h = refl
ascend_mapped Is f low (t ∷ triples) one h =
    ap (λ same. (leb low t.index && (ltb t.index OBJECT_BLOCKS && not same)) && ascend_from (t.index + 1) (map (mapped_triple f) triples)) (same_mapped Is f t.before t.after one h.0.0 h.0.1)
    ∙ ap (λ rest. (leb low t.index && (ltb t.index OBJECT_BLOCKS && not (same_slot t.before t.after))) && rest) (ascend_mapped Is f (t.index + 1) triples one h.1)

changes_mapped : (f : Place → Place) (e : EntryFields) → changes_now (mapped_entry f e) ≡ changes_now e
changes_mapped f e =
    ap (λ n. cond e.after.alive (e.after.changed == e.moment) (e.before.size == e.after.size && (e.before.changed == e.after.changed && (is_none e.pair && n == 0)))) (length-map e.triples (mapped_triple f))

pub rules_mapped : (Is : Place → Type 0) (f : Place → Place) (e : EntryFields) → IsOneToOne Is f → TellsWithin Is e → entry_rules (mapped_entry f e) ≡ entry_rules e
unfolding entry_rules
rules_mapped Is f e one h =
    ap (λ now. leb 1 e.moment && ((e.before.alive || e.after.alive) && (leb e.before.size OBJECT_BYTES && (leb e.after.size OBJECT_BYTES && (was_nothing e.before && (now && (differs e.pair && ascend_from 0 (map (mapped_triple f) e.triples)))))))) (changes_mapped f e)
    ∙ ap (λ rest. leb 1 e.moment && ((e.before.alive || e.after.alive) && (leb e.before.size OBJECT_BYTES && (leb e.after.size OBJECT_BYTES && (was_nothing e.before && (changes_now e && (differs e.pair && rest))))))) (ascend_mapped Is f 0 e.triples one h)

pub all_rules : (Is : Place → Type 0) (f : Place → Place) → MappedEntriesKeepTheRules Is f
all_rules Is f [] one told h = tt
all_rules Is f (e ∷ entries) one told h = (rules_mapped Is f e one told.0 ∙ h.0, all_rules Is f entries one told.1 h.1)

pub renamed_rules : RenamedEntriesKeepTheRules
renamed_rules r entries distinct = all_rules (IsNotNew r) (renamed r) entries (renaming_is r distinct)

-- ---- for the code

reads_some : (test : Bool) (e : EntryFields) (o : Option EntryFields) → test ≡ true → Reads (λ f. f) o (kept test e) → o ≡ Some e
reads_some test e None is h = (let some : kept test e ≡ Some e = cond-true test (Some e) None is in absurd (cc))
reads_some test e (Some f) is h = (let some : kept test e ≡ Some e = cond-true test (Some e) None is in sym h ∙ some)

entry_of : ℕ → Status → Status → Option Pair → List Triple → EntryFields
entry_of m before after pair triples = record { moment = m; before = before; after = after; pair = pair; triples = triples }

entry_of-same : (m n : ℕ) (a b c d : Status) (p q : Option Pair) (ts us : List Triple) → m ≡ n → a ≡ b → c ≡ d → p ≡ q → ts ≡ us → entry_of m a c p ts ≡ entry_of n b d q us
entry_of-same m n a b c d p q ts us e f g h k = cc

-- the entry that is made of an entry's parts and of its mapped triples is the mapped one
pub made_mapped : (Is : Place → Type 0) (f : Place → Place) (e : EntryFields) (m : ℕ) (before after : Status) (pair : Option Pair) (triples : List Triple) (o : Option EntryFields) → IsOneToOne Is f → TellsWithin Is e → entry_rules e ≡ true → m ≡ e.moment → before ≡ e.before → after ≡ e.after → pair ≡ e.pair → triples ≡ map (mapped_triple f) e.triples → Reads (λ g. g) o (checked_entry (record { moment = m; before = before; after = after; pair = pair; triples = triples })) → o ≡ Some (mapped_entry f e)
unfolding entry_of
made_mapped Is f e m before after pair triples o one told rules em eb ea ep et h =
    let is : entry_of m before after pair triples ≡ mapped_entry f e = entry_of-same m e.moment before e.before after e.after pair e.pair triples (map (mapped_triple f) e.triples) em eb ea ep et in
    let read : Reads (λ g. g) o (checked_entry (mapped_entry f e)) = subst (λ (x : EntryFields). Reads (λ g. g) o (checked_entry x)) is h in
    reads_some (entry_rules (mapped_entry f e)) (mapped_entry f e) o (rules_mapped Is f e one told ∙ rules) read
