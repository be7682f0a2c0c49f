-- What is appended for copies, and what becomes of an object's blocks. No public clause cites this file.
use Rattle.std.specs.Prelude.{◌≡◌, ◌⊎◌, ◌↔◌, ◌==◌, if◌then◌else◌, ℕ, suc, Bool, true, false, ◌+◌, List, [], length, map, take, Option, Some, None, IsSome, MatchOption, option_map}
use Rattle.std.specs.List.{Contains, list_any}
use Rattle.s4_types.specs.Pointer.{Place}
use Rattle.s4_types.specs.declared.limits.TheConstants.{PAYLOAD_BLOCKS}
use Rattle.block_log.specs.declared.kinds.BlockKind.TheVariants.{Journal, Data}
use Rattle.block_log.specs.Log.{Log, NamesAreOfData, Stored, of_kind, same_place}
use Rattle.block_log.specs.Taken.{TakesPlaces}
use Rattle.checkpoint.specs.Held.{of_checkpoints}
use Rattle.codec.specs.Entry.{EntryFields, entries_length}
use Rattle.codec.specs.declared.inodes.Inode.{Inode}
use Rattle.undo_redo.specs.Runs.{inode_after}
use Rattle.object_map.specs.declared.map.Row.{Row}
use Rattle.time_read.specs.Rows.{IsRow, entries_of, checkpoint_of, inode_of}
use Rattle.time_read.specs.Orderly.{BeginsDead, IsFromTo, IsOrderlyChain, IsOrderly}
use Rattle.row_changes.specs.Moving.{checkpoint_with, first_with, moved_blocks}
use Rattle.row_changes.specs.Rewritten.{OnlyMetadataChanged}
use Rattle.inode.specs.Growth.{data_block}
use Rattle.chain_rewriting.specs.Renaming.{RenamingFields, move_of, new_place, renamed_slot, renamed_entries, renamed_inode}
use Rattle.chain_rewriting.specs.Apart.{HasDistinctPlaces}
use Rattle.version_store.specs.declared.copies.CopiedBlock.{CopiedBlock}
use Rattle.version_store.specs.Store.{IsNamedBy, StoreFields, IsStore, named_of, pointers_of, times_led}
use Rattle.version_store.specs.Versions.{inode_in, version_in}
use Rattle.version_store.specs.Replacing.{OnlyDataChanged, OtherObjectsStay}
use Rattle.version_store.specs.Relocating.{IsCopied, IsRelocated, blocks_relocated, frame_of_copies, with_moves, renaming_by, renamed_checkpoint, blocks_ascend_from}

-- A journal was written in place of an object's: this inode in its checkpoint, if there is one, and these entries. The next
-- row names no older checkpoints.
pub record Moved (between moved : Log) (o : ℕ) (row next : Row) (kept : Option Inode) (entries : List EntryFields) : Type 0 where
  pub stands : IsRow moved.held o next
  pub journal : entries_of moved.held o next ≡ entries
  pub checkpoint : checkpoint_of moved.held o next ≡ checkpoint_with o row kept
  pub inode : (t : ℕ) → inode_of moved.held o next t ≡ inode_after (first_with o row kept entries) entries t
  pub orderly : (latest : ℕ) → IsOrderlyChain row.created latest (first_with o row kept entries) entries → IsFromTo 1 latest row.created
      → MatchOption row.checkpoint (BeginsDead entries) (λ p. IsFromTo row.created latest row.checkpoint_moment) → IsOrderly moved.held o next latest
  pub fields : next ≡ record row { checkpoint = next.checkpoint; head = next.head; journal_bytes = entries_length entries; head_bytes = next.head_bytes; sides = [] }
  pub metadata : OnlyMetadataChanged o between.held moved.held
  pub takes : TakesPlaces (moved_blocks kept entries) between moved
  pub chains : (p : Place) → IsSome (of_kind Journal o moved.held p) → Contains (take (moved_blocks kept entries) between.ahead) p
  pub checkpoints : (p : Place) → IsSome (of_checkpoints o moved.held p) → Contains (take (moved_blocks kept entries) between.ahead) p

-- a copy of a block of this number is held at a place
pub record IsCopyAt (o : ℕ) (copies : List CopiedBlock) (now : Log) (n : ℕ) (q : Place) : Type 0 where
  pub copy : CopiedBlock
  pub among : Contains copies copy
  pub number : copy.place.block ≡ n
  pub there : now.held q ≡ Some (data_block o copy.bytes)

-- a block moves to the place
pub record IsNewPlace (r : RenamingFields) (q : Place) : Type 0 where
  pub number : ℕ
  pub moves : move_of r number ≡ Some q

-- The first of an object's copies were appended, and a renaming has their new places; these are the rest of them.
pub record Appending (o : ℕ) (copies : List CopiedBlock) (before now : Log) (r : RenamingFields) (rest : List CopiedBlock) (count : ℕ) : Type 0 where
  pub exact : with_moves r rest now.ahead ≡ renaming_by copies before.ahead
  pub takes : TakesPlaces count before now
  pub stays : (p : Place) → IsSome (before.held p) → now.held p ≡ before.held p
  pub others : OnlyDataChanged o before.held now.held
  pub frame : r.frame ≡ (frame_of_copies copies).frame
  pub generation : r.generation ≡ (frame_of_copies copies).generation
  pub size : length r.moves ≡ PAYLOAD_BLOCKS
  pub distinct : HasDistinctPlaces r
  pub named : (q : Place) → now.named q ≡ times_led q r.moves + before.named q
  pub fresh : (n : ℕ) (q : Place) → move_of r n ≡ Some q → before.held q ≡ None
  pub there : (n : ℕ) (q : Place) → move_of r n ≡ Some q → IsCopyAt o copies now n q
  pub each : (c : CopiedBlock) → Contains copies c → IsSome (move_of r c.place.block) ⊎ Contains rest c
  pub new : (q : Place) → before.held q ≡ None → IsSome (now.held q) → IsNewPlace r q
  pub below : (n : ℕ) (q : Place) → move_of r n ≡ Some q → blocks_ascend_from (suc n) rest ≡ true
  pub low : ℕ
  pub ascending : blocks_ascend_from low rest ≡ true

-- An object's data has the names that its row's pointers give once they are renamed; that of all other objects those that it had.
pub record NamesMove (before : Log) (o : ℕ) (row : Row) (r : RenamingFields) (later : Log) : Type 0 where
  pub names : NamesAreOfData later
  pub here : IsNamedBy o later (map (renamed_slot r) (pointers_of before.held o row))
  pub beside : (q : ℕ) (p : Place) → (o == q) ≡ false → named_of q later p ≡ named_of q before p

-- whether one of these blocks was at the place
abbrev pub stood_at : Place → List CopiedBlock → Bool
stood_at p copies = list_any (λ c. same_place c.place p) copies

-- a data block is what it was before, where no block moves away; or it is at a new place, where nothing was
abbrev pub IsOldOrNew : ℕ → RenamingFields → (Place → Option Stored) → (Place → Option Stored) → Place → Type 0
IsOldOrNew o r held later p = ((of_kind Data o later p ≡ of_kind Data o held p) × (new_place r p ≡ None)) ⊎ ((held p ≡ None) × IsNewPlace r p)

-- An object's copied blocks went to the first places ahead, and its journal was renamed and written after them.
pub record Relocates (before : Log) (o : ℕ) (row : Row) (copies : List CopiedBlock) (next : Row) (later : Log) (r : RenamingFields) : Type 0 where
  pub exact : r ≡ renaming_by copies before.ahead
  pub stands : IsRow later.held o next
  pub journal : entries_of later.held o next ≡ renamed_entries r (entries_of before.held o row)
  pub kept : checkpoint_of later.held o next ≡ option_map (renamed_checkpoint r) (checkpoint_of before.held o row)
  pub inode : (t : ℕ) → inode_of later.held o next t ≡ renamed_inode r (inode_of before.held o row t)
  pub orderly : (latest : ℕ) → IsOrderly before.held o row latest → IsOrderly later.held o next latest
  pub fields : next ≡ record row { checkpoint = next.checkpoint; head = next.head; head_bytes = next.head_bytes; sides = [] }
  pub moved : (p : Place) → IsSome (new_place r p) ↔ IsCopied copies p
  pub copied : (p q : Place) → new_place r p ≡ Some q → IsSome (of_kind Data o before.held p) × (of_kind Data o later.held q ≡ of_kind Data o before.held p)
  pub gone : (p : Place) → IsCopied copies p → later.held p ≡ None
  pub stayed : (p : Place) → IsSome (of_kind Data o before.held p) → new_place r p ≡ None → of_kind Data o later.held p ≡ of_kind Data o before.held p
  pub blocks : (p : Place) → IsSome (of_kind Data o later.held p) → IsOldOrNew o r before.held later.held p
  pub from : (p : Place) → IsNewPlace r p → (q : Place) × (new_place r q ≡ Some p)
  pub chains : (p : Place) → IsSome (of_kind Journal o later.held p) → Contains (take (blocks_relocated before.held o row copies) before.ahead) p
  pub checkpoints : (p : Place) → IsSome (of_checkpoints o later.held p) → Contains (take (blocks_relocated before.held o row copies) before.ahead) p
  pub others : OtherObjectsStay o before.held later.held
  pub takes : TakesPlaces (blocks_relocated before.held o row copies) before later

-- an object of a store was relocated
pub record RelocatesIn (s : StoreFields) (o : ℕ) (row : Row) (copies : List CopiedBlock) (later : StoreFields) : Type 0 where
  pub store : IsStore later
  pub relocated : IsRelocated s o row copies later
  pub inodes : (q t : ℕ) → inode_in later q t ≡ (if o == q then option_map (renamed_inode (renaming_by copies s.log.ahead)) (inode_in s q t) else inode_in s q t)
  pub versions : (q t : ℕ) → version_in later q t ≡ version_in s q t
