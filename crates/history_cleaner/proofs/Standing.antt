-- What is left of an object's chain can be in the place of its journal.
use Rattle.std.proofs.Common.{◌≡◌, ℕ, zero, suc, ◌<◌, ◌≤◌, ◌||◌, Bool, true, false, leb, cond, inl, inr, List, [], ◌∷◌, get_or, length, Option, Some, None, refl, sym, ap, subst, ◌∙◌, arith}
use Rattle.std.specs.Prelude.{IfSome}
use Rattle.std.specs.List.{AllByRecursion, Contains}
use Rattle.std.proofs.lemmas.Bool.{cases_Bool, and_parts, le-leb}
use Rattle.std.proofs.lemmas.List.{get_or_default}
use Rattle.std.proofs.lemmas.List.Elements.{Contains-append_cases}
use Rattle.std.proofs.lemmas.Option.{same_Some}
use Rattle.s4_types.specs.Pointer.{Place}
use Rattle.s4_types.specs.declared.limits.TheConstants.{CHAIN_ENTRY_BYTES}
use Rattle.block_log.specs.Log.{Stored}
use Rattle.block_log.specs.declared.kinds.BlockKind.TheVariants.{Data}
use Rattle.codec.specs.declared.inodes.Inode.{Inode}
use Rattle.codec.specs.declared.entries.Triple.{Triple}
use Rattle.codec.specs.Entry.{EntryFields, entries_length}
use Rattle.undo_redo.specs.Runs.{Run, AllBy, undone_all, inode_after, moments_ascend_from, last_moment}
use Rattle.undo_redo.specs.Groups.{grouped}
use Rattle.inode.specs.Contents.{byte_of, contents_of}
use Rattle.inode.specs.Tidiness.{Tidy}
use Rattle.object_map.specs.declared.map.Row.{Row}
use Rattle.time_read.specs.Rows.{IsRow, entries_of, inode_of}
use Rattle.time_read.specs.Orderly.{IsOrderlyChain}
use Rattle.version_store.specs.Store.{StoreFields, Names, sides_of, sides_told, pointers_of}
use Rattle.version_store.specs.Versions.{inode_by}
use Rattle.version_store.specs.Laws.{InodesPointToWhatRowsName}
use Rattle.version_store.specs.Checkpointing.{last_entry}
use Rattle.chain_rewriting.specs.Chains.{IsChain}
use Rattle.chain_rewriting.specs.Cleaned.{KeptChain, cleaned}
use Rattle.chain_rewriting.specs.CleaningLaws.{IsOneShown, IsPlaceOf, TellsWithin, HasPlacesWithin, AKeptChainIsGrouped, AKeptChainHasOldMoments, TheMomentsOfAKeptChainAreOld, AKeptChainIsInOrder, AKeptChainShowsOldInodes, AKeptChainPointsToOldPlaces, AKeptChainTakesNoMoreBytes}
use Rattle.version_store.proofs.CheckpointSteps.{last_moment_least}
use Rattle.history_cleaner.specs.Laws.{HasChain, first_stored, left_of, WhatIsLeftCanStand, AnEmptyJournalStaysEmpty}
use Rattle.history_cleaner.specs.private.Chains.{RunLaws, ChainLaws}
use Rattle.history_cleaner.proofs.Stored.{first_is, shown_is, stored_chain}

-- what holds of an answer holds of what it answers
pub some_of : (o : Option KeptChain) (P : KeptChain → Type 0) (chain : KeptChain) → o ≡ Some chain → IfSome o P → P chain
some_of o P chain is h = subst (λ (x : Option KeptChain). IfSome x P) is h

-- what is left of an object's chain is a run
pub left_run : ChainLaws → (sees : ℕ → ℕ → Bool) (s : StoreFields) (o clock : ℕ) (row : Row) (chain : KeptChain) → HasChain s o row clock → left_of sees s o row clock ≡ Some chain → Run chain.first chain.entries chain.last
left_run laws sees s o clock row chain h left =
    let first : Inode = first_stored s o row clock in
    some_of (left_of sees s o row clock) (λ c. Run c.first c.entries c.last) chain left (laws.is_run sees row.created clock clock first (entries_of s.log.held o row) (stored_chain laws s o clock row h).1)

-- which begins where its entries are all undone
pub left_begins : ChainLaws → (sees : ℕ → ℕ → Bool) (s : StoreFields) (o clock : ℕ) (row : Row) (chain : KeptChain) → HasChain s o row clock → left_of sees s o row clock ≡ Some chain → chain.first ≡ undone_all chain.entries chain.last
left_begins laws sees s o clock row chain h left = laws.run.begins chain.first chain.last chain.entries (left_run laws sees s o clock row chain h left)

-- ---- moments

by_last : (low : ℕ) (entries : List EntryFields) → moments_ascend_from low entries ≡ true → AllBy (last_moment low entries) entries
by_last low [] up = tt
by_last low (e ∷ entries) up =
    let parts = and_parts (leb low e.moment) (moments_ascend_from e.moment entries) up in
    (le-leb e.moment (last_moment e.moment entries) (last_moment_least e.moment entries parts.1), by_last e.moment entries parts.1)

-- ---- inodes

-- what holds of each inode that is shown, and of each such one with its flag off
old_holds : (P : Inode → Type 0) (first : Inode) (entries : List EntryFields) (i : Inode) → ((u : ℕ) → P (inode_after first entries u)) → ((p : Inode) → P p → P (record p { alive = false })) → IsOneShown first entries i → P i
old_holds P first entries i all dark h = elim h.1 [
  | inl is ↦ subst P (sym is) (all h.0)
  | inr off ↦ subst P (sym off) (dark (inode_after first entries h.0) (all h.0))
]

dark_tidy : (contents : Place → List ℕ) (i : Inode) → Tidy contents i → Tidy contents (record i { alive = false })
unfolding byte_of
dark_tidy contents i h = record { count = h.count; size = h.size; holes = h.holes; zeros = h.zeros }

-- ---- places

pub if_is : (Is : Place → Type 0) (slot : Option Place) (p : Place) → slot ≡ Some p → IfSome slot Is → Is p
if_is Is slot p at h = subst (λ (x : Option Place). IfSome x Is) at h

two_is : (Is : Place → Type 0) (a b : Option Place) (n : ℕ) (p : Place) → n < 2 → get_or (a ∷ b ∷ []) n (Some p) ≡ Some p → IfSome a Is → IfSome b Is → Is p
two_is Is a b zero p lt at first second = if_is Is a p at first
two_is Is a b (suc zero) p lt at first second = if_is Is b p at second
two_is Is a b (suc (suc n)) p lt at first second = absurd (omega (arith, lt))

sides_are : (Is : Place → Type 0) (triples : List Triple) (p : Place) → AllByRecursion (λ t. IfSome t.before Is × IfSome t.after Is) triples → Contains (sides_of triples) (Some p) → Is p
sides_are Is [] p all there = let (n, below, at) = there in absurd (omega (arith, below))
sides_are Is (t ∷ triples) p all there = elim (Contains-append_cases (t.before ∷ t.after ∷ []) (sides_of triples) (Some p) there) [
  | inl here ↦ let (n, below, at) = here in two_is Is t.before t.after n p (omega (arith, below)) at all.0.0 all.0.1
  | inr behind ↦ sides_are Is triples p all.1 behind
]

pub told_are : (Is : Place → Type 0) (entries : List EntryFields) (p : Place) → AllByRecursion (TellsWithin Is) entries → Contains (sides_told entries) (Some p) → Is p
told_are Is [] p all there = let (n, below, at) = there in absurd (omega (arith, below))
told_are Is (e ∷ entries) p all there = elim (Contains-append_cases (sides_of e.triples) (sides_told entries) (Some p) there) [
  | inl here ↦ sides_are Is e.triples p all.0 here
  | inr behind ↦ told_are Is entries p all.1 behind
]

place_named : RunLaws → InodesPointToWhatRowsName → (s : StoreFields) (o clock : ℕ) (row : Row) (p : Place) → HasChain s o row clock → IsPlaceOf (first_stored s o row clock) (entries_of s.log.held o row) p → Contains (pointers_of s.log.held o row) (Some p)
place_named laws points s o clock row p h place =
    let (u, k, at) = place in
    let named = points s o u k (inode_of s.log.held o row u) p (ap (inode_by s.log.held o u) h.there) (sym (ap (λ (i : Inode). get_or i.pointers k None) (shown_is laws s o clock u row h)) ∙ at) in
    let same : named.row ≡ row = same_Some named.row row (sym named.there ∙ h.there) in
    subst (λ (r : Row). Names s.log.held o r Data p) same named.names

-- ---- the whole

pub record Laws : Type 0 where
  pub chain : ChainLaws
  pub ascend : (entries : List EntryFields) → grouped entries ≡ true → moments_ascend_from 0 entries ≡ true
  pub is_grouped : AKeptChainIsGrouped
  pub old : AKeptChainHasOldMoments
  pub moments : TheMomentsOfAKeptChainAreOld
  pub order : AKeptChainIsInOrder
  pub shown : AKeptChainShowsOldInodes
  pub places : AKeptChainPointsToOldPlaces
  pub points : InodesPointToWhatRowsName
  pub making : (held : Place → Option Stored) (o : ℕ) (row : Row) (t : ℕ) → IsRow held o row → (inode_of held o row t).created ≡ row.created
  pub bytes : AKeptChainTakesNoMoreBytes

pub can_stand : Laws → WhatIsLeftCanStand
can_stand laws sees s o clock row chain h some left =
    let held = s.log.held in
    let first : Inode = first_stored s o row clock in
    let entries : List EntryFields = entries_of held o row in
    let last : ℕ = last_entry held o row in
    let answer : Option KeptChain = cleaned sees clock first entries in
    let object = h.store.objects o row h.there in
    let base : IsChain row.created clock first entries = (stored_chain laws.chain s o clock row h).1 in
    let now : HasChain s o row s.latest = record { store = h.store; there = h.there; latest = omega arith; rules = h.rules; few = h.few } in
    let early : IsChain row.created s.latest first entries = subst (λ (i : Inode). IsChain row.created s.latest i entries) (first_is laws.chain.run s o s.latest row now ∙ sym (first_is laws.chain.run s o clock row h)) (stored_chain laws.chain s o s.latest row now).1 in
    let run : Run chain.first chain.entries chain.last = left_run laws.chain sees s o clock row chain h left in
    let start : chain.first ≡ undone_all chain.entries chain.last = left_begins laws.chain sees s o clock row chain h left in
    let by : AllBy last chain.entries = some_of answer (λ c. AllBy last c.entries) chain left (laws.old (λ m. leb m last) sees clock first entries (by_last 0 entries (laws.ascend entries object.stands.groups))) in
    let shown : (t : ℕ) → IsOneShown first entries (inode_after chain.first chain.entries t) = λ t. some_of answer (λ c. IsOneShown first entries (inode_after c.first c.entries t)) chain left (laws.shown sees row.created clock clock t first entries base) in
    let end : chain.last ≡ inode_after chain.first chain.entries last = laws.chain.run.ends chain.first chain.last chain.entries run ∙ sym (laws.chain.run.done chain.first chain.entries last by) in
    let places : HasPlacesWithin (IsPlaceOf first entries) chain = some_of answer (HasPlacesWithin (IsPlaceOf first entries)) chain left (laws.places sees row.created clock clock first entries base) in
    let bytes : entries_length chain.entries ≤ entries_length entries = some_of answer (λ c. entries_length c.entries ≤ entries_length entries) chain left (laws.bytes sees row.created clock clock first entries base h.few) in
    let limit : entries_length entries ≤ CHAIN_ENTRY_BYTES = object.stands.chain.limit in
    record {
      journal = some;
      run = subst (λ (i : Inode). Run i chain.entries chain.last) start run;
      groups = some_of answer (λ c. grouped c.entries ≡ true) chain left (laws.is_grouped sees row.created clock clock first entries base);
      by = by;
      moments = some_of answer (λ c. (e : EntryFields) → Contains c.entries e → (f : EntryFields) × (Contains entries f × (f.moment ≡ e.moment))) chain left (laws.moments sees clock first entries);
      bytes = omega (arith, bytes, limit);
      made = ap (λ (i : Inode). i.created) end
          ∙ old_holds (λ i. i.created ≡ row.created) first entries (inode_after chain.first chain.entries last) (λ u. ap (λ (i : Inode). i.created) (shown_is laws.chain.run s o clock u row h) ∙ laws.making held o row u object.stands) (λ p is. is) (shown last);
      order = subst (λ (i : Inode). IsOrderlyChain row.created s.latest i chain.entries) start (some_of answer (λ c. IsOrderlyChain row.created s.latest c.first c.entries) chain left (laws.order sees row.created s.latest clock first entries early));
      tidy = λ t. subst (λ (i : Inode). Tidy (contents_of held) (inode_after i chain.entries t)) start
          (old_holds (Tidy (contents_of held)) first entries (inode_after chain.first chain.entries t) (λ u. subst (Tidy (contents_of held)) (sym (shown_is laws.chain.run s o clock u row h)) (object.tidy u)) (dark_tidy (contents_of held)) (shown t));
      pointers = λ p told. place_named laws.chain.run laws.points s o clock row p h (elim (Contains-append_cases chain.last.pointers (sides_told chain.entries) (Some p) told) [
        | inl kept ↦ let (n, below, at) = kept in if_is (IsPlaceOf first entries) (get_or chain.last.pointers n None) p (get_or_default chain.last.pointers n None (Some p) below ∙ at) (places.last n)
        | inr sides ↦ told_are (IsPlaceOf first entries) chain.entries p places.entries sides
      ]);
    }

-- ---- without entries

empty_left : (sees : ℕ → ℕ → Bool) (clock : ℕ) (first : Inode) (entries : List EntryFields) (chain : KeptChain) → length entries ≡ 0 → cleaned sees clock first entries ≡ Some chain → chain.entries ≡ entries
empty_left sees clock first [] chain none left = some_of (cleaned sees clock first []) (λ c. c.entries ≡ []) chain left (elim (cases_Bool (first.alive || false)) [
  | inl is ↦ subst (λ (b : Bool). IfSome {T = KeptChain} (cond b (Some (record { first = first; entries = []; last = first })) None) (λ c. c.entries ≡ [])) (sym is) refl
  | inr dead ↦ subst (λ (b : Bool). IfSome {T = KeptChain} (cond b (Some (record { first = first; entries = []; last = first })) None) (λ c. c.entries ≡ [])) (sym dead) tt
])
empty_left sees clock first (e ∷ entries) chain none left = absurd (omega (arith, none))

pub stays_empty : AnEmptyJournalStaysEmpty
stays_empty sees s o clock row chain none left = empty_left sees clock (first_stored s o row clock) (entries_of s.log.held o row) chain none left
