-- A chain while it is being written: the blocks that stand already, those that are to be dropped, and the newest, which is
-- still in memory.
use Rattle.std.specs.Prelude.{◌≡◌, ℕ, ◌+◌, if◌then◌else◌, List, [], ◌∷◌, ◌++◌, reverse, Option, Some, None, is_some}
use Rattle.s4_types.specs.Pointer.{Place}
use Rattle.block_log.specs.declared.kinds.BlockKind.TheVariants.{Journal}
use Rattle.block_log.specs.Log.{Log, Stored, of_kind, with_held}
use Rattle.block_log.specs.Taken.{TakesPlaces}
use Rattle.codec.specs.Fields.{◌>>=◌, all_of, bit}
use Rattle.codec.specs.Entry.{EntryFields}
use Rattle.codec.specs.Journal.{JournalFields, journal_at, journal_spelling}
use Rattle.journal_chain.specs.Sizes.{fits}
use Rattle.journal_chain.specs.Packing.{packed}
use Rattle.journal_chain.specs.Chain.{BlockView, Link, ChainFields, journal_of, journal_in, places_of, blocks_of, times}

-- the place of the newest block, or none
abbrev pub head_of : List Link → Option Place
head_of [] = None
head_of (newest ∷ older) = Some newest.place

-- the fields of a chain's newest block
abbrev pub fields_of_block : ℕ → Link → List Link → JournalFields
fields_of_block o newest older = record { object = o; previous = head_of older; entries = newest.entries }

-- each block is at its place, and names the place of the one before
abbrev pub Stands : ℕ → BlockView → List Link → Type 0
Stands o view [] = Unit {0}
Stands o view (newest ∷ older) = (journal_in o view newest.place ≡ Some (fields_of_block o newest older)) × Stands o view older

-- These blocks are as a chain; each journal block of the object is one of them or is at one of these stale places, and
-- is there once.
pub record Standing (o : ℕ) (view : BlockView) (links : List Link) (stale : List Place) : Type 0 where
  pub stands : Stands o view links
  pub once : (p : Place) → times p (places_of links) + times p stale ≡ bit (is_some (view p))

-- all blocks of these entries stand, and the newest is at the head
pub record Finished (held : Place → Option Stored) (o : ℕ) (stale : List Place) (head : Option Place) (entries : List EntryFields) : Type 0 where
  pub links : List Link
  pub standing : Standing o (of_kind Journal o held) links stale
  pub head_is : head ≡ head_of links
  pub blocks : packed entries ≡ blocks_of links

-- all blocks of these entries stand but the newest, which is in memory
pub record Unfinished (held : Place → Option Stored) (o : ℕ) (stale : List Place) (block : JournalFields) (entries : List EntryFields) : Type 0 where
  pub links : List Link
  pub standing : Standing o (of_kind Journal o held) links stale
  pub object : block.object ≡ o
  pub previous : block.previous ≡ head_of links
  pub blocks : packed entries ≡ block.entries ∷ blocks_of links

-- a journal block as a table holds it
abbrev pub stored_journal : JournalFields → Stored
stored_journal block = record { kind = Journal; object = block.object; bytes = journal_spelling block }

-- a journal block was appended at the next place ahead, which was free, and one place was taken; names of data stay
pub record Put (log later : Log) (p : Place) (block : JournalFields) : Type 0 where
  pub free : log.held p ≡ None
  pub held : later.held ≡ with_held log.held p (stored_journal block)
  pub takes : TakesPlaces 1 log later
  pub next : log.ahead ≡ p ∷ later.ahead
  pub named : later.named ≡ log.named
  pub spells : journal_of block.object (journal_spelling block) ≡ Some block

-- From a head on these are the places of journal blocks of an object, the newest first: each block names the place of the one
-- before, and the oldest a hole.
abbrev pub Follows : ℕ → BlockView → Option Place → List Place → Type 0
Follows o view head [] = head ≡ None
Follows o view head (p ∷ places) = (head ≡ Some p) × ((block : JournalFields) × ((journal_in o view p ≡ Some block) × Follows o view block.previous places))

-- These are the places of an object's journal blocks from a head on, the oldest first, and after them those ahead.
pub record InOrder (o : ℕ) (log : Log) (head : Option Place) (all : List Place) : Type 0 where
  pub places : List Place
  pub follows : Follows o (of_kind Journal o log.held) head places
  pub order : all ≡ reverse places ++ log.ahead

-- the head, where an entry of this size goes into it; it is then to be dropped
abbrev pub reopened : ChainFields → ℕ → Option Place
reopened chain size = if fits chain.filled size then chain.head else None

-- the fields of the journal block that is here, if one is
abbrev pub spelled_journal : Option Stored → Option JournalFields
spelled_journal there = there >>= λ block. all_of journal_at block.bytes
