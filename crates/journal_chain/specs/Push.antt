-- When a chain takes new entries, and when it can be written afresh.
use Rattle.std.specs.Prelude.{ℕ, ◌+◌, ◌≤◌, nat_lt, if◌then◌else◌, List, length, map, Option, Some, None}
use Rattle.s4_types.specs.Pointer.{Place}
use Rattle.s4_types.specs.declared.limits.TheConstants.{CHAIN_ENTRY_BYTES}
use Rattle.s4_types.specs.declared.refusals.Refusal.{Refusal}
use Rattle.s4_types.specs.declared.refusals.Refusal.TheVariants.{NoRoom}
use Rattle.codec.specs.Entry.{EntryFields, entry_length, entries_length}
use Rattle.journal_chain.specs.Sizes.{blocks_needed}
use Rattle.journal_chain.specs.Packing.{AllFit}
use Rattle.journal_chain.specs.Chain.{ChainFields}

-- how many blocks a push of these entries appends
abbrev pub pushed_blocks : ChainFields → List EntryFields → ℕ
pushed_blocks chain entries = blocks_needed chain.filled (map entry_length entries)

-- There is room for a push of these entries: each fits a block, the chain isn't too long with them, and enough places are ahead.
pub record HasRoom (chain : ChainFields) (ahead : List Place) (entries : List EntryFields) : Type 0 where
  pub fit : AllFit entries
  pub bytes : chain.bytes + entries_length entries ≤ CHAIN_ENTRY_BYTES
  pub blocks : pushed_blocks chain entries ≤ length ahead

-- how many blocks a whole chain of these entries has: as many as a push of them to an empty chain appends
abbrev pub whole_blocks : List EntryFields → ℕ
whole_blocks entries = blocks_needed 0 (map entry_length entries)

-- Why these entries can't be written as a whole chain, if they can't: too few places are ahead.
abbrev pub rewrite_refusal : List Place → List EntryFields → Option Refusal
rewrite_refusal ahead entries = if nat_lt (length ahead) (whole_blocks entries) then Some NoRoom else None
