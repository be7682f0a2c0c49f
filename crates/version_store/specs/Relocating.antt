-- What a store is once blocks of an object are at other places.
use Rattle.std.specs.Prelude.{◌≡◌, ◌⊎◌, ◌↔◌, ℕ, suc, ◌+◌, Bool, true, ◌&&◌, nat_le, List, [], ◌∷◌, length, map, take, Option, Some, None, IsSome, option_map}
use Rattle.std.specs.List.{AllByRecursion, Contains}
use Rattle.s4_types.specs.Pointer.{Place}
use Rattle.block_log.specs.declared.kinds.BlockKind.TheVariants.{Journal, Data}
use Rattle.block_log.specs.Log.{Stored, of_kind}
use Rattle.block_log.specs.Taken.{TakesPlaces}
use Rattle.checkpoint.specs.Held.{of_checkpoints}
use Rattle.codec.specs.Checkpoint.{CheckpointFields}
use Rattle.object_map.specs.declared.map.Row.{Row}
use Rattle.object_map.specs.Rows.{row_of, with_row}
use Rattle.time_read.specs.Rows.{entries_of, checkpoint_of}
use Rattle.row_changes.specs.Moving.{row_blocks}
use Rattle.chain_rewriting.specs.Renaming.{RenamingFields, renaming_of, with_move, is_in, new_place, renamed_slot, renamed_entries, renamed_inode}
use Rattle.version_store.specs.declared.copies.CopiedBlock.{CopiedBlock}
use Rattle.version_store.specs.Store.{StoreFields, pointers_of}
use Rattle.version_store.specs.Replacing.{OtherObjectsStay}

-- ---- copies, and where they go

-- the frame of copied blocks: that of the first; with none no block of any frame moves
abbrev pub frame_of_copies : List CopiedBlock → RenamingFields
frame_of_copies [] = renaming_of 0 0
frame_of_copies (c ∷ copies) = renaming_of c.place.frame c.place.generation

-- the renaming with a new place for each copied block: these, in order
abbrev pub with_moves : RenamingFields → List CopiedBlock → List Place → RenamingFields
with_moves r [] places = r
with_moves r (c ∷ copies) [] = r
with_moves r (c ∷ copies) (p ∷ places) = with_moves (with_move r c.place.block p) copies places

-- the renaming by copies that are appended in order where these places are ahead
abbrev pub renaming_by : List CopiedBlock → List Place → RenamingFields
renaming_by copies ahead = with_moves (frame_of_copies copies) copies ahead

-- the numbers of copied blocks ascend strictly, from this one on
abbrev pub blocks_ascend_from : ℕ → List CopiedBlock → Bool
blocks_ascend_from low [] = true
blocks_ascend_from low (c ∷ copies) = nat_le low c.place.block && blocks_ascend_from (suc c.place.block) copies

-- Copies of data blocks of an object, all of one frame at one generation, by ascending blocks. Each block is held, with the
-- bytes of its copy.
pub record AreCopies (held : Place → Option Stored) (o : ℕ) (copies : List CopiedBlock) : Type 0 where
  pub frame : AllByRecursion (λ c. is_in (frame_of_copies copies) c.place ≡ true) copies
  pub ascending : blocks_ascend_from 1 copies ≡ true
  pub bytes : AllByRecursion (λ c. of_kind Data o held c.place ≡ Some c.bytes) copies

-- a copied block was at the place
abbrev pub IsCopied : List CopiedBlock → Place → Type 0
IsCopied copies p = (c : CopiedBlock) × (Contains copies c × (c.place ≡ p))

-- How many blocks it takes to relocate copies of an object of this row: as many as there are, those of its checkpoint, if it
-- has one, and those of its journal.
abbrev pub blocks_relocated : (Place → Option Stored) → ℕ → Row → List CopiedBlock → ℕ
blocks_relocated held o row copies = length copies + row_blocks held o row

-- a checkpoint with its pointers renamed
abbrev pub renamed_checkpoint : RenamingFields → CheckpointFields → CheckpointFields
renamed_checkpoint r c = record c { inode = renamed_inode r c.inode }

-- ---- what a store is then

-- An object of this row was relocated: its copied blocks are at the first places ahead, in order, and no block is held
-- where they stood. Its checkpoint, if it has one, and its journal were written anew, as of the moments that they had, with
-- each pointer to a copied block renamed; no older checkpoint is left, and its row was changed once more. Each block of the
-- object that is held is a data block that was at its place before, or is at one of this many places that were taken; all
-- other rows and blocks are as they were, and so is the last change.
pub record IsRelocated (s : StoreFields) (o : ℕ) (row : Row) (copies : List CopiedBlock) (later : StoreFields) : Type 0 where
  pub next : Row
  pub rest : next ≡ record row { checkpoint = next.checkpoint; head = next.head; head_bytes = next.head_bytes; sides = []; stamp = row.stamp + 1 }
  pub put : (q : ℕ) → row_of later.rows q ≡ with_row (row_of s.rows) o next q
  pub journal : entries_of later.log.held o next ≡ renamed_entries (renaming_by copies s.log.ahead) (entries_of s.log.held o row)
  pub kept : checkpoint_of later.log.held o next ≡ option_map (renamed_checkpoint (renaming_by copies s.log.ahead)) (checkpoint_of s.log.held o row)
  pub pointers : pointers_of later.log.held o next ≡ map (renamed_slot (renaming_by copies s.log.ahead)) (pointers_of s.log.held o row)
  pub moved : (p : Place) → IsSome (new_place (renaming_by copies s.log.ahead) p) ↔ IsCopied copies p
  pub copied : (p q : Place) → new_place (renaming_by copies s.log.ahead) p ≡ Some q → of_kind Data o later.log.held q ≡ of_kind Data o s.log.held p
  pub gone : (p : Place) → IsCopied copies p → later.log.held p ≡ None
  pub stayed : (p : Place) → IsSome (of_kind Data o s.log.held p) → new_place (renaming_by copies s.log.ahead) p ≡ None → of_kind Data o later.log.held p ≡ of_kind Data o s.log.held p
  pub blocks : (p : Place) → IsSome (of_kind Data o later.log.held p)
      → (of_kind Data o later.log.held p ≡ of_kind Data o s.log.held p) ⊎ Contains (take (blocks_relocated s.log.held o row copies) s.log.ahead) p
  pub chains : (p : Place) → IsSome (of_kind Journal o later.log.held p) → Contains (take (blocks_relocated s.log.held o row copies) s.log.ahead) p
  pub checkpoints : (p : Place) → IsSome (of_checkpoints o later.log.held p) → Contains (take (blocks_relocated s.log.held o row copies) s.log.ahead) p
  pub others : OtherObjectsStay o s.log.held later.log.held
  pub takes : TakesPlaces (blocks_relocated s.log.held o row copies) s.log later.log
  pub latest : later.latest ≡ s.latest
