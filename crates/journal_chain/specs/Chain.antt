-- An object's chain of journal blocks: the blocks that a head leads to, and the entries that they hold together.
use Rattle.std.specs.Prelude.{◌≡◌, ℕ, zero, suc, ◌+◌, ◌≤◌, false, ◌==◌, ◌&&◌, List, [], ◌∷◌, map, Option, Some, None, is_some, unwrap_or}
use Rattle.s4_types.specs.Pointer.{Place}
use Rattle.s4_types.specs.declared.limits.TheConstants.{CHAIN_BLOCKS, CHAIN_ENTRY_BYTES}
use Rattle.block_log.specs.declared.kinds.BlockKind.{BlockKind}
use Rattle.block_log.specs.declared.kinds.BlockKind.TheVariants.{Journal}
use Rattle.block_log.specs.Log.{Stored, of_kind, same_kind, same_place}
use Rattle.codec.specs.Fields.{◌>>=◌, all_of, kept, bit}
use Rattle.codec.specs.Entry.{EntryFields, entries_length}
use Rattle.codec.specs.Journal.{JournalFields, journal_at}
use Rattle.journal_chain.specs.Packing.{packed, joined, filled_bytes, AllFit}

-- what a table of blocks shows of an object's journal: the bytes at each place
abbrev pub BlockView : Type 0
BlockView = Place → Option (List ℕ)

-- the fields that these bytes encode, if they are a journal block of the object
unfoldable pub journal_of : ℕ → List ℕ → Option JournalFields
journal_of o bytes = all_of journal_at bytes >>= λ j. kept (j.object == o) j

-- the fields that the object's journal block at a place encodes, if there is one
abbrev pub journal_in : ℕ → BlockView → Place → Option JournalFields
journal_in o view p = view p >>= journal_of o

-- the same of what a table holds
abbrev pub journal_held : (Place → Option Stored) → ℕ → Place → Option JournalFields
journal_held held o p = journal_in o (of_kind Journal o held) p

-- a journal block of a chain: its place, and its entries, oldest first
pub record Link : Type 0 where
  pub place : Place
  pub entries : List EntryFields

-- the block at this place, and what is found after it
abbrev pub linked : Place → JournalFields → List Link → List Link
linked p block older = record { place = p; entries = block.entries } ∷ older

-- The journal blocks from a head on, newest first: each names the place of the one before, and the oldest a hole. None
-- where no journal block is at a place that is named, or where this many blocks don't reach the hole.
unfoldable pub links_from : ℕ → (Place → Option JournalFields) → Option Place → Option (List Link)
links_from fuel blocks None = Some []
links_from zero blocks (Some p) = None
links_from (suc fuel) blocks (Some p) = do
  block ← blocks p
  older ← links_from fuel blocks block.previous
  Some (linked p block older)

-- the journal blocks of an object's chain from a head on: at most CHAIN_BLOCKS
unfoldable pub chain_links : BlockView → ℕ → Option Place → Option (List Link)
chain_links view o head = links_from CHAIN_BLOCKS (journal_in o view) head

abbrev pub places_of : List Link → List Place
places_of links = map (λ l. l.place) links

abbrev pub blocks_of : List Link → List (List EntryFields)
blocks_of links = map (λ l. l.entries) links

-- the places of a chain's blocks, newest first
abbrev pub chain_places : BlockView → ℕ → Option Place → List Place
chain_places view o head = places_of (unwrap_or (chain_links view o head) [])

-- the entries of each of a chain's blocks, the newest block first
abbrev pub chain_blocks : BlockView → ℕ → Option Place → Option (List (List EntryFields))
chain_blocks view o head = chain_links view o head >>= λ links. Some (blocks_of links)

-- the entries of a chain, oldest first
abbrev pub entries_in : BlockView → ℕ → Option Place → Option (List EntryFields)
entries_in view o head = chain_links view o head >>= λ links. Some (joined (blocks_of links))

-- the entries of an object's chain from a head on, oldest first, by what a table holds
unfoldable pub chain_entries : (Place → Option Stored) → ℕ → Option Place → Option (List EntryFields)
chain_entries held o head = entries_in (of_kind Journal o held) o head

-- What is kept of a chain beside its object's row: the head block's place or none, the bytes of all entries, and those of
-- the head block's entries.
pub record ChainFields : Type 0 where
  pub object : ℕ
  pub head : Option Place
  pub bytes : ℕ
  pub filled : ℕ

-- the entries of a chain that is held, oldest first
abbrev pub entries_held : (Place → Option Stored) → ChainFields → List EntryFields
entries_held held chain = unwrap_or (chain_entries held chain.object chain.head) []

-- how often a place is among places
unfoldable pub times : Place → List Place → ℕ
times p [] = 0
times p (q ∷ places) = bit (same_place p q) + times p places

-- A view of an object's journal is a chain of these entries: its blocks, from the head on, are the packing of the entries;
-- each block that is there is in the chain once, and no other is; and the two counts of bytes are right.
pub record IsChain (view : BlockView) (chain : ChainFields) (entries : List EntryFields) : Type 0 where
  pub blocks : chain_blocks view chain.object chain.head ≡ Some (packed entries)
  pub walk : entries_in view chain.object chain.head ≡ Some entries
  pub once : (p : Place) → times p (chain_places view chain.object chain.head) ≡ bit (is_some (view p))
  pub fit : AllFit entries
  pub limit : entries_length entries ≤ CHAIN_ENTRY_BYTES
  pub bytes : chain.bytes ≡ entries_length entries
  pub filled : chain.filled ≡ filled_bytes (packed entries)

-- a table holds a chain of these entries, and no other journal block of the object
abbrev pub Holds : (Place → Option Stored) → ChainFields → List EntryFields → Type 0
Holds held chain entries = IsChain (of_kind Journal chain.object held) chain entries

-- of all views, that of the object's journal alone has changed
abbrev pub OnlyJournalChanged : ℕ → (Place → Option Stored) → (Place → Option Stored) → Type 0
OnlyJournalChanged o held later = (kind : BlockKind) (other : ℕ) → (same_kind Journal kind && o == other) ≡ false → of_kind kind other later ≡ of_kind kind other held
