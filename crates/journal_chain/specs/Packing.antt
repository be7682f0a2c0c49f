-- How the entries of a chain lie in its journal blocks. Blocks are listed newest first, as the chain is walked from its
-- head; the entries of a block, and all other lists of entries, oldest first.
use Rattle.std.specs.Prelude.{ℕ, ◌+◌, ◌-◌, ◌<◌, ◌≤◌, nat_lt, if◌then◌else◌, List, [], ◌∷◌, ◌++◌, length, fold}
use Rattle.std.specs.List.{AllByRecursion}
use Rattle.s4_types.specs.declared.limits.TheConstants.{JOURNAL_ENTRY_BYTES}
use Rattle.codec.specs.Entry.{EntryFields, entry_length, entries_length}
use Rattle.journal_chain.specs.Sizes.{fits}

-- One more entry: after those of the newest block if it fits there, else the first of a new block.
unfoldable pub packed_with : List (List EntryFields) → EntryFields → List (List EntryFields)
packed_with [] entry = (entry ∷ []) ∷ []
packed_with (newest ∷ older) entry =
    if fits (entries_length newest) (entry_length entry) then (newest ++ entry ∷ []) ∷ older else (entry ∷ []) ∷ newest ∷ older

-- several more entries, one after another
abbrev pub added : List (List EntryFields) → List EntryFields → List (List EntryFields)
added blocks entries = fold packed_with blocks entries

-- the blocks of a chain that has these entries
abbrev pub packed : List EntryFields → List (List EntryFields)
packed entries = added [] entries

-- the entries of all blocks
unfoldable pub joined : List (List EntryFields) → List EntryFields
joined [] = []
joined (newest ∷ older) = joined older ++ newest

-- the bytes of entries in the newest block, 0 where there is none
unfoldable pub filled_bytes : List (List EntryFields) → ℕ
filled_bytes [] = 0
filled_bytes (newest ∷ older) = entries_length newest

-- ---- the rule

-- the bytes of a block's first entry
abbrev pub first_length : List EntryFields → ℕ
first_length [] = 0
first_length (entry ∷ entries) = entry_length entry

-- a block has entries, and no more than fit
pub record IsBlock (entries : List EntryFields) : Type 0 where
  pub some : 0 < length entries
  pub few : entries_length entries ≤ JOURNAL_ENTRY_BYTES

-- the first entry of a block doesn't fit after the entries of the block before, if there is one
abbrev pub IsBehind : List (List EntryFields) → List EntryFields → Type 0
IsBehind [] block = Unit {0}
IsBehind (previous ∷ older) block = JOURNAL_ENTRY_BYTES < entries_length previous + first_length block

-- the rule of packing, which every chain keeps
abbrev pub KeepsTheRule : List (List EntryFields) → Type 0
KeepsTheRule [] = Unit {0}
KeepsTheRule (newest ∷ older) = IsBlock newest × IsBehind older newest × KeepsTheRule older

-- each entry fits a block of its own
abbrev pub AllFit : List EntryFields → Type 0
AllFit entries = AllByRecursion (λ e. entry_length e ≤ JOURNAL_ENTRY_BYTES) entries

-- ---- a push

-- how many blocks hold an entry that comes after the first `count` of all entries
unfoldable pub blocks_past : ℕ → List (List EntryFields) → ℕ
blocks_past count [] = 0
blocks_past count (newest ∷ older) =
    (if nat_lt (count - length (joined older)) (length newest) then 1 else 0) + blocks_past count older

-- The blocks that a push of these entries leaves as they are: all but the head, where the first entry fits after its
-- entries.
unfoldable pub blocks_kept : List (List EntryFields) → List EntryFields → List (List EntryFields)
blocks_kept blocks [] = blocks
blocks_kept [] (entry ∷ entries) = []
blocks_kept (newest ∷ older) (entry ∷ entries) =
    if fits (entries_length newest) (entry_length entry) then older else newest ∷ older
