-- What giving names to data blocks and taking them away leave of a log. No public clause cites this file.
use Rattle.std.specs.Prelude.{◌≡◌, ◌⊎◌, ℕ, ◌+◌, ◌-◌, ◌==◌, ◌&&◌, ◌++◌, true, if◌then◌else◌, List, [], map, Option, Some, None, IfSome}
use Rattle.s4_types.specs.Pointer.{Place}
use Rattle.block_log.specs.Log.{Log, Stored, is_data}
use Rattle.block_log.specs.Taken.{TakesPlaces}
use Rattle.codec.specs.declared.inodes.Inode.{Inode}
use Rattle.version_store.specs.declared.copies.CopiedBlock.{CopiedBlock}
use Rattle.time_read.specs.declared.journals.ObjectJournal.{ObjectJournal}
use Rattle.version_store.specs.Store.{sides_told, times_led}

-- a pointer is a hole, or refers to a data block
abbrev pub IsOfData : (Place → Option Stored) → Option Place → Type 0
IsOfData held pointer = IfSome pointer (λ p. is_data (held p) ≡ true)

-- a pointer is a hole, or refers to a data block, or to nothing
abbrev pub IsOfDataOrNothing : (Place → Option Stored) → Option Place → Type 0
IsOfDataOrNothing held pointer = IfSome pointer (λ p. (is_data (held p) ≡ true) ⊎ (held p ≡ None))

-- the pointers of an inode; none where there is none
abbrev pub pointers_in : Option Inode → List (Option Place)
pointers_in None = []
pointers_in (Some i) = i.pointers

-- the pointers of a checkpoint and a journal, those of the checkpoint first
abbrev pub pointers_journaled : ObjectJournal → List (Option Place)
pointers_journaled journal = pointers_in journal.checkpoint ++ sides_told journal.entries.items

-- the places of blocks that were copied, as pointers
abbrev pub places_copied : List CopiedBlock → List (Option Place)
places_copied copies = map (λ c. Some c.place) copies

-- what is held where data blocks have these numbers of names: one that has none is held no longer
abbrev pub held_named : (Place → Option Stored) → (Place → ℕ) → Place → Option Stored
held_named held named q = if is_data (held q) && named q == 0 then None else held q

-- The data block that each of these pointers refers to was named once more for it.
pub record Gives (before : Log) (pointers : List (Option Place)) (after : Log) : Type 0 where
  pub named : (q : Place) → after.named q ≡ times_led q pointers + before.named q
  pub held : after.held ≡ before.held
  pub takes : TakesPlaces 0 before after

-- The data block that each of these pointers refers to was named once less for it, and is held no longer without any name.
pub record TakesAway (before : Log) (pointers : List (Option Place)) (after : Log) : Type 0 where
  pub named : (q : Place) → after.named q ≡ before.named q - times_led q pointers
  pub held : (q : Place) → after.held q ≡ held_named before.held after.named q
  pub takes : TakesPlaces 0 before after
