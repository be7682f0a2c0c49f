-- Reading a chain from its newest entry back to its oldest.
use Rattle.std.specs.Prelude.{List, [], ◌++◌, Option, Some, unwrap_or}
use Rattle.s4_types.specs.Pointer.{Place}
use Rattle.s4_types.specs.declared.limits.TheConstants.{CHAIN_BLOCKS}
use Rattle.block_log.specs.Log.{Stored}
use Rattle.codec.specs.Fields.{◌>>=◌}
use Rattle.codec.specs.Entry.{EntryFields}
use Rattle.journal_chain.specs.Packing.{joined}
use Rattle.journal_chain.specs.Chain.{Link, links_from, places_of, blocks_of}
use Rattle.journal_chain.specs.Writing.{spelled_journal}

-- where a reader stands: the entries of the block being read that it hasn't given, oldest first, and the block before
pub record BackFields : Type 0 where
  pub previous : Option Place
  pub entries : List EntryFields

-- the journal blocks from a place on, newest first, whosever they are: at most CHAIN_BLOCKS
unfoldable pub links_back : (Place → Option Stored) → Option Place → Option (List Link)
links_back held from = links_from CHAIN_BLOCKS (λ p. spelled_journal (held p)) from

-- the entries that a reader hasn't given, oldest first; it gives the last of them next
abbrev pub entries_left : (Place → Option Stored) → BackFields → Option (List EntryFields)
entries_left held back = links_back held back.previous >>= λ links. Some (joined (blocks_of links) ++ back.entries)

-- the same as a list
abbrev pub left : (Place → Option Stored) → BackFields → List EntryFields
left held back = unwrap_or (entries_left held back) []

-- the places of the blocks from a place on, newest first
abbrev pub places_back : (Place → Option Stored) → Option Place → List Place
places_back held from = places_of (unwrap_or (links_back held from) [])
