-- What holds of an object's chain in a store, and of what is left of it once nobody can see a part of it.
use Rattle.std.specs.Prelude.{◌≡◌, ◌⊎◌, ℕ, ◌≤◌, ◌<◌, Bool, true, List, length, Option, Some, None}
use Rattle.std.specs.List.{AllByRecursion}
use Rattle.s4_types.specs.declared.limits.TheConstants.{ENTRY_TRIPLES}
use Rattle.s4_types.specs.declared.versions.Version.TheVariants.{Absent}
use Rattle.codec.specs.declared.inodes.Inode.{Inode}
use Rattle.codec.specs.Entry.{EntryFields, entry_rules}
use Rattle.undo_redo.specs.Runs.{undone_all, entries_by}
use Rattle.inode.specs.Contents.{contents_of, meaning}
use Rattle.object_map.specs.declared.map.Row.{Row}
use Rattle.object_map.specs.Rows.{row_of}
use Rattle.time_read.specs.Rows.{entries_of, inode_of}
use Rattle.version_store.specs.Store.{StoreFields, IsStore}
use Rattle.version_store.specs.Versions.{version_in}
use Rattle.version_store.specs.Replacing.{CanReplace, inode_led}
use Rattle.chain_rewriting.specs.Chains.{IsChain}
use Rattle.chain_rewriting.specs.Cleaned.{KeptChain, cleaned}
use Rattle.chain_rewriting.specs.CleaningLaws.{FitsSight}

-- The first inode of an object's chain: all its entries undone from the inode at a moment, one from the last change on.
abbrev pub first_stored : StoreFields → ℕ → Row → ℕ → Inode
first_stored s o row t = undone_all (entries_of s.log.held o row) (inode_of s.log.held o row t)

-- each entry keeps the rules of entries
abbrev pub KeepRules : List EntryFields → Type 0
KeepRules entries = AllByRecursion (λ e. entry_rules e ≡ true) entries

-- no entry has more triples than an entry holds
abbrev pub HaveFewTriples : List EntryFields → Type 0
HaveFewTriples entries = AllByRecursion (λ e. length e.triples ≤ ENTRY_TRIPLES) entries

-- An object has a row in a store, whose last change is of a moment or an earlier one; the entries of its journal are such as a
-- journal holds.
pub record HasChain (s : StoreFields) (o : ℕ) (row : Row) (t : ℕ) : Type 0 where
  pub store : IsStore s
  pub there : row_of s.rows o ≡ Some row
  pub latest : s.latest ≤ t
  pub rules : KeepRules (entries_of s.log.held o row)
  pub few : HaveFewTriples (entries_of s.log.held o row)

-- what is left of an object's chain at a clock
abbrev pub left_of : (ℕ → ℕ → Bool) → StoreFields → ℕ → Row → ℕ → Option KeptChain
left_of sees s o row clock = cleaned sees clock (first_stored s o row clock) (entries_of s.log.held o row)

-- The chain of an object is one that can be cleaned.
abbrev pub AStoredChainIsAChain : Type 0
AStoredChainIsAChain = (s : StoreFields) (o t : ℕ) (row : Row) → HasChain s o row t
    → ((first_stored s o row t).created ≡ row.created) × IsChain row.created t (first_stored s o row t) (entries_of s.log.held o row)

-- What is left of it can be in the place of a journal with entries.
abbrev pub WhatIsLeftCanStand : Type 0
WhatIsLeftCanStand = (sees : ℕ → ℕ → Bool) (s : StoreFields) (o clock : ℕ) (row : Row) (chain : KeptChain) → HasChain s o row clock
    → 0 < length (entries_of s.log.held o row) → left_of sees s o row clock ≡ Some chain
    → CanReplace s o row chain.last chain.entries

-- Where a journal has no entry, what is left of it has none.
abbrev pub AnEmptyJournalStaysEmpty : Type 0
AnEmptyJournalStaysEmpty = (sees : ℕ → ℕ → Bool) (s : StoreFields) (o clock : ℕ) (row : Row) (chain : KeptChain)
    → length (entries_of s.log.held o row) ≡ 0 → left_of sees s o row clock ≡ Some chain → chain.entries ≡ entries_of s.log.held o row

-- A sight tells what can be seen at a clock, and later: at the clock itself the object can be seen.
pub record IsSight (sees : ℕ → ℕ → Bool) (visible : ℕ → Bool) (clock : ℕ) : Type 0 where
  pub fits : FitsSight sees visible
  pub now : visible clock ≡ true

-- a moment can be seen, or it is the clock or later
abbrev pub IsOf : (ℕ → Bool) → ℕ → ℕ → Type 0
IsOf visible clock t = (visible t ≡ true) ⊎ (clock ≤ t)

-- At each moment that can be seen, and from the clock on, what is left represents the same version.
abbrev pub WhatIsLeftShowsTheSame : Type 0
WhatIsLeftShowsTheSame = (sees : ℕ → ℕ → Bool) (visible : ℕ → Bool) (s : StoreFields) (o clock t : ℕ) (row : Row) (chain : KeptChain)
    → HasChain s o row clock → IsSight sees visible clock → left_of sees s o row clock ≡ Some chain → IsOf visible clock t
    → meaning (contents_of s.log.held) (inode_led chain.last chain.entries t) ≡ version_in s o t

-- Where nothing is left, the object is absent at each of these moments.
abbrev pub NothingIsLeftOfTheAbsent : Type 0
NothingIsLeftOfTheAbsent = (sees : ℕ → ℕ → Bool) (visible : ℕ → Bool) (s : StoreFields) (o clock t : ℕ) (row : Row)
    → HasChain s o row clock → IsSight sees visible clock → left_of sees s o row clock ≡ None → IsOf visible clock t
    → version_in s o t ≡ Absent

-- Where something is left, the object is there at some moment that can be seen.
abbrev pub WhatIsLeftIsSeen : Type 0
WhatIsLeftIsSeen = (sees : ℕ → ℕ → Bool) (visible : ℕ → Bool) (s : StoreFields) (o clock : ℕ) (row : Row) (chain : KeptChain)
    → HasChain s o row clock → IsSight sees visible clock → left_of sees s o row clock ≡ Some chain
    → (u : ℕ) × ((visible u ≡ true) × (version_in s o u ≡ Absent → ⊥))

-- And at each moment what is left is as at some moment that can be seen.
abbrev pub WhatIsLeftIsSeenThroughout : Type 0
WhatIsLeftIsSeenThroughout = (sees : ℕ → ℕ → Bool) (visible : ℕ → Bool) (s : StoreFields) (o clock t : ℕ) (row : Row) (chain : KeptChain)
    → HasChain s o row clock → IsSight sees visible clock → left_of sees s o row clock ≡ Some chain
    → (u : ℕ) × ((visible u ≡ true) × (entries_by u chain.entries ≡ entries_by t chain.entries))
