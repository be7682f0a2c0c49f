-- Which journal blocks a table shows where an object's chain was dropped and then written, and how few entries a chain has.
use Rattle.std.proofs.Common.{◌≡◌, inl, inr, ℕ, ◌+◌, ◌≤◌, ◌<◌, Bool, true, ◌==◌, ◌&&◌, List, [], ◌∷◌, ◌++◌, length, map, take, reverse, Option, Some, None, IsSome, is_some, unwrap_or, if◌then◌else◌, refl, sym, ap, subst, ◌∙◌, arith}
use Rattle.std.specs.List.{Contains}
use Rattle.std.proofs.lemmas.Bool.{cases_Bool, and_from, and_parts, eqb-true, eq-eqb, false≢true}
use Rattle.std.proofs.lemmas.List.{length-append, length-map, length-reverse}
use Rattle.std.proofs.lemmas.Option.{none-some, same_Some}
use Rattle.s4_types.specs.Pointer.{Place}
use Rattle.s4_types.specs.declared.limits.TheConstants.{CHAIN_ENTRIES, CHAIN_ENTRY_BYTES}
use Rattle.block_log.specs.declared.kinds.BlockKind.{BlockKind}
use Rattle.block_log.specs.declared.kinds.BlockKind.TheVariants.{Journal}
use Rattle.block_log.specs.Log.{Log, Stored, of_kind, seen_as, same_kind}
use Rattle.block_log.specs.Taken.{TakesPlaces}
use Rattle.block_log.proofs.BlockKinds.{same_kind_itself, one_kind, seen_as_itself, seen_is_some}
use Rattle.codec.specs.Fields.{◌>>=◌, bit}
use Rattle.codec.specs.Entry.{EntryFields, entry_length, entries_length}
use Rattle.journal_chain.specs.Chain.{ChainFields, Link, Holds, OnlyJournalChanged, times, places_of, blocks_of, chain_places, chain_links}

-- ---- few entries

-- an entry that a walk back gives is one of those whose sizes are not taken yet
pub few_sizes : (rest older : List EntryFields) (e : EntryFields) (all : List EntryFields) (sizes : List ℕ) → rest ≡ older ++ e ∷ [] → map entry_length rest ++ reverse sizes ≡ map entry_length all → length all ≤ CHAIN_ENTRIES → length sizes < CHAIN_ENTRIES
few_sizes rest older e all sizes gives whole few =
    let count : length (map entry_length rest ++ reverse sizes) ≡ length (map entry_length all) = ap length whole in
    let behind : length rest ≡ length older + 1 = ap length gives ∙ length-append older (e ∷ []) in
    omega (arith, few, count, behind, length-append (map entry_length rest) (reverse sizes), length-map rest entry_length, length-map all entry_length, length-reverse sizes)

-- ---- a chain of no entries has no blocks

pub no_places : (found : Option (List Link)) → (found >>= λ links. Some (blocks_of links)) ≡ Some [] → places_of (unwrap_or found []) ≡ []
no_places None is = absurd (none-some [] is)
no_places (Some []) is = refl
no_places (Some (l ∷ links)) is =
    let count : length (blocks_of (l ∷ links)) ≡ 0 = ap length (same_Some (blocks_of (l ∷ links)) [] is) in
    absurd (omega (arith, count))

pub none_seen : (seen : Option (List ℕ)) → bit (is_some seen) ≡ 0 → seen ≡ None
none_seen None is = refl
none_seen (Some bytes) is = absurd (omega (arith, is))

pub no_times : (p : Place) (places : List Place) → places ≡ [] → times p places ≡ 0
unfolding times
no_times p places none = ap (times p) none

pub journal_gone : (held : Place → Option Stored) (chain : ChainFields) (o : ℕ) → chain.object ≡ o → Holds held chain [] → (p : Place) → of_kind Journal o held p ≡ None
journal_gone held chain o object holds p =
    subst (λ (n : ℕ). of_kind Journal n held p ≡ None) object
    (none_seen (of_kind Journal chain.object held p)
    (sym (holds.once p) ∙ no_times p (chain_places (of_kind Journal chain.object held) chain.object chain.head) (no_places (chain_links (of_kind Journal chain.object held) chain.object chain.head) holds.blocks)))

pub no_bytes : entries_length [] ≤ CHAIN_ENTRY_BYTES
unfolding entries_length
no_bytes = omega arith

-- ---- what is held that was not is at a place that was taken

same_kinds : (k j i : BlockKind) → same_kind k i ≡ true → same_kind j i ≡ true → same_kind k j ≡ true
same_kinds k j i a b = (λ t. same_kind (one_kind k i a t) (one_kind j i b t)) ∙ same_kind_itself i

-- a block that is seen as one of a kind and object is of that kind and object
seen_is : (k : BlockKind) (o : ℕ) (block : Stored) → IsSome (seen_as k o (Some block)) → (same_kind k block.kind && block.object == o) ≡ true
seen_is k o block some = elim (cases_Bool (same_kind k block.kind && block.object == o)) [
  | inl is ↦ is
  | inr other ↦ absurd (false≢true (sym (ap (λ (b : Bool). is_some (if b then Some block.bytes else None)) other) ∙ some))
]

-- so it is of one kind and of one object
seen_once : (k j : BlockKind) (o q : ℕ) (there : Option Stored) → IsSome (seen_as k o there) → IsSome (seen_as j q there) → (same_kind k j && o == q) ≡ true
seen_once k j o q None some too = absurd (false≢true some)
seen_once k j o q (Some block) some too =
    let first = and_parts (same_kind k block.kind) (block.object == o) (seen_is k o block some) in
    let second = and_parts (same_kind j block.kind) (block.object == q) (seen_is j q block too) in
    and_from (same_kind k j) (o == q) (same_kinds k j block.kind first.0 second.0) (eq-eqb o q (sym (eqb-true block.object o first.1) ∙ eqb-true block.object q second.1))

-- where no journal block of the object was held, and its journal alone has changed, nothing was held where one is now
unheld : (held later : Place → Option Stored) (o : ℕ) (p : Place) (there : Option Stored) → held p ≡ there → OnlyJournalChanged o held later → of_kind Journal o held p ≡ None → IsSome (of_kind Journal o later p) → held p ≡ None
unheld held later o p None is only gone some = is
unheld held later o p (Some block) is only gone some = elim (cases_Bool (same_kind Journal block.kind && o == block.object)) [
  | inl journal ↦
      let parts = and_parts (same_kind Journal block.kind) (o == block.object) journal in
      let seen : of_kind Journal o held p ≡ Some block.bytes =
      ap (seen_as Journal o) is ∙ ap (λ (b : Bool). if b then Some block.bytes else None) (and_from (same_kind Journal block.kind) (block.object == o) parts.0 (eq-eqb block.object o (sym (eqb-true o block.object parts.1)))) in
      absurd (none-some block.bytes (sym gone ∙ seen))
  | inr other ↦
      let still : of_kind block.kind block.object later p ≡ Some block.bytes = ap (λ (v : Place → Option (List ℕ)). v p) (only block.kind block.object other) ∙ ap (seen_as block.kind block.object) is ∙ seen_as_itself block in
      absurd (false≢true (sym other ∙ seen_once Journal block.kind o block.object (later p) some (ap is_some still)))
]

pub journal_among : (n : ℕ) (first between after : Log) (o : ℕ) → TakesPlaces 0 first between → OnlyJournalChanged o between.held after.held → ((p : Place) → of_kind Journal o between.held p ≡ None) → TakesPlaces n between after
    → (p : Place) → IsSome (of_kind Journal o after.held p) → Contains (take n first.ahead) p
journal_among n first between after o none only gone takes p some =
    subst (λ (places : List Place). Contains (take n places) p) none.ahead
    (takes.among p (unheld between.held after.held o p (between.held p) refl only (gone p) some) (seen_is_some Journal o (after.held p) some))
