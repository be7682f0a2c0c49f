-- The blocks of a checkpoint, and the checkpoint that they tell.
use Rattle.std.specs.Prelude.{◌≡◌, ℕ, ◌*◌, Bool, false, not, List, ◌++◌, length, take, drop, Option, Some, is_none, ◌==◌, ◌&&◌}
use Rattle.std.specs.List.{list_all, AllByRecursion}
use Rattle.s4_types.specs.Pointer.{Place}
use Rattle.s4_types.specs.declared.limits.TheConstants.{CHECKPOINT_POINTERS}
use Rattle.codec.specs.Fields.{◌>>=◌, kept, all_of}
use Rattle.codec.specs.Checkpoint.{CheckpointFields, IsSlot, checked}
use Rattle.codec.specs.PointerBlock.{pointers_at}
use Rattle.codec.specs.declared.first_blocks.FirstBlock.{FirstBlock}
use Rattle.codec.specs.declared.pointer_blocks.PointerBlock.{PointerBlock}

-- the pointers of a part of an inode; those of the first block are part 0
unfoldable pub part_of : ℕ → List (Option Place) → List (Option Place)
part_of part pointers = take CHECKPOINT_POINTERS (drop (CHECKPOINT_POINTERS * part) pointers)

-- whether all of them are holes
abbrev pub are_holes : List (Option Place) → Bool
are_holes pointers = list_all is_none pointers

-- the first block of a checkpoint whose parts are at these places
abbrev pub first_of : CheckpointFields → List (Option Place) → FirstBlock
first_of c parts =
    record { object = c.object; moment = c.moment; alive = c.inode.alive; size = c.inode.size; created = c.inode.created; changed = c.inode.changed; attribute = c.inode.attribute; pointers = part_of 0 c.inode.pointers; parts = parts }

-- the block of a part with these pointers, in a checkpoint of this object and moment: none where all are holes
abbrev pub block_with : ℕ → ℕ → ℕ → List (Option Place) → Option PointerBlock
block_with object moment part pointers = kept (not (are_holes pointers)) (record { part = part; object = object; moment = moment; pointers = pointers })

-- the block of a part of a checkpoint
abbrev pub pointers_of : CheckpointFields → ℕ → Option PointerBlock
pointers_of c part = block_with c.object c.moment part (part_of part c.inode.pointers)

-- whether a pointer block is the one of that part of a first block's checkpoint
abbrev pub is_part : FirstBlock → ℕ → PointerBlock → Bool
is_part f part b = b.part == part && (b.object == f.object && (b.moment == f.moment && not (are_holes b.pointers)))

-- the pointers of a part that a block tells
abbrev pub told_in : FirstBlock → ℕ → List ℕ → Option (List (Option Place))
told_in f part block = all_of pointers_at block >>= λ b. kept (is_part f part b) b.pointers

-- a block tells these pointers of a part of a first block's checkpoint
pub record TellsPart (f : FirstBlock) (part : ℕ) (block : List ℕ) (pointers : List (Option Place)) : Type 0 where
  pub found : PointerBlock
  pub read : all_of pointers_at block ≡ Some found
  pub its_part : found.part ≡ part
  pub object : found.object ≡ f.object
  pub moment : found.moment ≡ f.moment
  pub some : are_holes pointers ≡ false
  pub count : length pointers ≡ CHECKPOINT_POINTERS

-- as many pointers as a block of a checkpoint has, in their ranges
abbrev pub ArePart : List (Option Place) → Type 0
ArePart pointers = (length pointers ≡ CHECKPOINT_POINTERS) × AllByRecursion IsSlot pointers

-- the checkpoint of a first block with all of its pointers
abbrev pub whole : FirstBlock → List (Option Place) → CheckpointFields
whole f pointers =
    record { object = f.object; moment = f.moment; inode = record { alive = f.alive; size = f.size; created = f.created; changed = f.changed; attribute = f.attribute; pointers = pointers } }

-- the checkpoint of a first block and the pointers of its parts, where it keeps the rules
abbrev pub joined : FirstBlock → List (Option Place) → List (Option Place) → List (Option Place) → Option CheckpointFields
joined f one two three = checked (whole f (f.pointers ++ (one ++ (two ++ three))))
