-- Packed entries keep the rule of packing, no other blocks do, and a chain that keeps it is short.
use Rattle.std.proofs.Common.{◌≡◌, ◌+◌, ◌*◌, ◌/◌, ◌≤◌, ◌<◌, inl, inr, List, [], ◌∷◌, ◌++◌, length, refl, sym, ap, subst, ◌∙◌, append_assoc, arith, length-append}
use Rattle.std.specs.List.{AllByRecursion}
use Rattle.std.proofs.lemmas.Bool.{cases_Bool, leb-true, leb-false, le-leb, lt-leb}
use Rattle.std.proofs.lemmas.List.Sums.{fold-append}
use Rattle.std.proofs.lemmas.Grind.{common_steps}
use Rattle.s4_types.specs.declared.limits.TheConstants.{JOURNAL_ENTRY_BYTES, CHAIN_ENTRY_BYTES, CHAIN_BLOCKS, SHORTEST_ENTRY_BYTES, LONGEST_ENTRY_BYTES}
use Rattle.codec.specs.Entry.{EntryFields, IsEntry, entry_length, entries_length}
use Rattle.codec.proofs.JournalEntries.{entries_append, entries_one, entries_push}
use Rattle.journal_chain.specs.Sizes.{fits}
use Rattle.journal_chain.specs.Packing.{packed_with, added, packed, joined, first_length, IsBlock, IsBehind, KeepsTheRule, AllFit}
use Rattle.journal_chain.proofs.Adding.{joined-packed, entry_fits, entry_begins, first_entry}

-- ---- packed entries keep the rule

first_stays : (entries : List EntryFields) (e : EntryFields) → 0 < length entries → first_length (entries ++ e ∷ []) ≡ first_length entries
first_stays [] e h = absurd (omega arith)
first_stays (x ∷ entries) e h = refl

stays_behind : (older : List (List EntryFields)) (newest : List EntryFields) (e : EntryFields) → 0 < length newest → IsBehind older newest → IsBehind older (newest ++ e ∷ [])
stays_behind [] newest e some h = tt
stays_behind (previous ∷ older) newest e some h = let same = first_stays newest e some in omega arith

one_entry : (e : EntryFields) → entry_length e ≤ JOURNAL_ENTRY_BYTES → IsBlock (e ∷ [])
one_entry e le = record { some = omega arith; few = omega (arith, entries_one e) }

one_more : (blocks : List (List EntryFields)) (e : EntryFields) → KeepsTheRule blocks → entry_length e ≤ JOURNAL_ENTRY_BYTES → KeepsTheRule (packed_with blocks e)
one_more [] e h le = subst KeepsTheRule (sym (first_entry e)) (one_entry e le, tt, tt)
one_more (newest ∷ older) e h le = elim (cases_Bool (fits (entries_length newest) (entry_length e))) [
  | inl in_it ↦ (let room = leb-true _ _ in_it in
      subst KeepsTheRule (sym (entry_fits newest older e in_it)) (
        record { some = omega (arith, length-append newest (e ∷ [])); few = omega (arith, entries_push newest e) },
        stays_behind older newest e h.0.some h.1,
        h.2,
      ))
  | inr past ↦ (let none = leb-false _ _ past in
      subst KeepsTheRule (sym (entry_begins newest older e past)) (one_entry e le, none, h))
]

pub added_keeps : (blocks : List (List EntryFields)) (entries : List EntryFields) → KeepsTheRule blocks → AllFit entries → KeepsTheRule (added blocks entries)
added_keeps blocks [] h all = h
added_keeps blocks (e ∷ entries) h all = added_keeps (packed_with blocks e) entries (one_more blocks e h all.0) all.1

pub packed_keeps : (entries : List EntryFields) → AllFit entries → KeepsTheRule (packed entries)
packed_keeps entries all = added_keeps [] entries tt all

-- ---- no other blocks do

-- entries that fit together stay in one block
in_one : (entries : List EntryFields) (older : List (List EntryFields)) (more : List EntryFields) → entries_length entries + entries_length more ≤ JOURNAL_ENTRY_BYTES
    → added (entries ∷ older) more ≡ (entries ++ more) ∷ older
unfolding entries_length
in_one entries older [] le = ap (λ xs. xs ∷ older) (grind (arith, common_steps))
in_one entries older (e ∷ more) le =
    ap (λ blocks. added blocks more) (entry_fits entries older e (le-leb _ _ (omega arith)))
    ∙ in_one (entries ++ e ∷ []) older more (omega (arith, entries_push entries e))
    ∙ ap (λ xs. xs ∷ older) (append_assoc entries (e ∷ []) more)

begins : (older : List (List EntryFields)) (e : EntryFields) (entries : List EntryFields) → IsBehind older (e ∷ entries) → packed_with older e ≡ (e ∷ []) ∷ older
begins [] e entries h = first_entry e
begins (previous ∷ older) e entries h = entry_begins previous older e (lt-leb _ _ h)

block_again : (older : List (List EntryFields)) (newest : List EntryFields) → IsBlock newest → IsBehind older newest → added older newest ≡ newest ∷ older
unfolding entries_length
block_again older [] is h = absurd (omega (arith, is.some))
block_again older (e ∷ entries) is h =
    ap (λ blocks. added blocks entries) (begins older e entries h) ∙ in_one (e ∷ []) older entries (omega (arith, entries_one e, is.few))

pub packed_again : (blocks : List (List EntryFields)) → KeepsTheRule blocks → packed (joined blocks) ≡ blocks
unfolding joined
packed_again [] h = refl
packed_again (newest ∷ older) h =
    fold-append packed_with [] (joined older) newest ∙ ap (λ blocks. added blocks newest) (packed_again older h.2) ∙ block_again older newest h.0 h.1

pub packed_on : (blocks : List (List EntryFields)) (entries : List EntryFields) → KeepsTheRule blocks → packed (joined blocks ++ entries) ≡ added blocks entries
packed_on blocks entries h = fold-append packed_with [] (joined blocks) entries ∙ ap (λ made. added made entries) (packed_again blocks h)

-- ---- a chain is short

first_part : (entries : List EntryFields) → first_length entries ≤ entries_length entries
unfolding entries_length
first_part [] = omega arith
first_part (e ∷ entries) = omega arith

pub neighbours : (newer previous : List EntryFields) (older : List (List EntryFields)) → KeepsTheRule (newer ∷ previous ∷ older) → JOURNAL_ENTRY_BYTES < entries_length newer + entries_length previous
neighbours newer previous older h = let behind = h.1 in omega (arith, first_part newer)

by_pairs : (blocks : List (List EntryFields)) → KeepsTheRule blocks → (JOURNAL_ENTRY_BYTES + 1) * (length blocks / 2) ≤ entries_length (joined blocks)
unfolding joined
by_pairs [] h = omega arith
by_pairs (block ∷ []) h = omega arith
by_pairs (newer ∷ previous ∷ older) h =
    let two = neighbours newer previous older h in
    let others = by_pairs older h.2.2 in
    omega (arith, entries_append (joined older ++ previous) newer, entries_append (joined older) previous)

pub few_blocks : (blocks : List (List EntryFields)) → KeepsTheRule blocks → entries_length (joined blocks) ≤ CHAIN_ENTRY_BYTES → length blocks ≤ CHAIN_BLOCKS
few_blocks blocks h le = let pairs = by_pairs blocks h in omega arith

pub few_packed : (entries : List EntryFields) → AllFit entries → entries_length entries ≤ CHAIN_ENTRY_BYTES → length (packed entries) ≤ CHAIN_BLOCKS
few_packed entries fit le = few_blocks (packed entries) (packed_keeps entries fit) (subst (λ all. entries_length all ≤ CHAIN_ENTRY_BYTES) (sym (joined-packed entries)) le)

-- how many entries there are at most, where each has SHORTEST_ENTRY_BYTES at least
pub few_entries : ((e : EntryFields) → SHORTEST_ENTRY_BYTES ≤ entry_length e) → (entries : List EntryFields) → SHORTEST_ENTRY_BYTES * length entries ≤ entries_length entries
unfolding entries_length
few_entries least [] = omega arith
few_entries least (e ∷ entries) = let one = least e in let others = few_entries least entries in omega arith

pub all_fit : ((e : EntryFields) → IsEntry e → entry_length e ≤ LONGEST_ENTRY_BYTES) → (entries : List EntryFields) → AllByRecursion IsEntry entries → AllFit entries
all_fit most [] h = tt
all_fit most (e ∷ entries) h = let one = most e h.0 in (omega arith, all_fit most entries h.1)
