-- The checkpoint of an object as small as those of the first version, in one block: how it is encoded.
use Rattle.std.specs.Prelude.{◌≡◌, ℕ, ◌≤◌, true, nat_le, ◌&&◌, List, ◌∷◌, ◌++◌, length, Option}
use Rattle.std.specs.Int.{w32, w64}
use Rattle.std.specs.List.{flat_map}
use Rattle.s4_types.specs.declared.limits.TheConstants.{CHECKPOINT_POINTERS}
use Rattle.codec.specs.Fields.{◌>>=◌, number, zeros, slot, bit, kept, padded, all_of}
use Rattle.codec.specs.Checkpoint.{CheckpointFields, CheckpointNumbers, checkpoint_rules, holes}
use Rattle.codec.specs.FirstBlock.{first_at}
use Rattle.codec.specs.Parts.{part_of, are_holes, joined}
use Rattle.codec.specs.declared.versions.TheConstants.{FIRST_OBJECT_BYTES}

-- the block of a checkpoint: the first pointers of the inode, and zeros
unfoldable pub small_spelling : CheckpointFields → List ℕ
small_spelling c =
    2 ∷ bit c.inode.alive ∷ length c.inode.attribute ∷ 0 ∷ (number w32 c.inode.size ++ (number w64 c.object ++ (number w64 c.moment ++ (number w64 c.inode.created ++ (number w64 c.inode.changed ++ (padded c.inode.attribute ++
    (flat_map slot (part_of 0 c.inode.pointers) ++ zeros 24)))))))

-- The block of an image of the first version encodes this checkpoint. It keeps the rules, so that no pointer is left out: those
-- past its size are holes.
pub record SpellsSmallCheckpoint (block : List ℕ) (c : CheckpointFields) : Type 0 where
  pub rules : checkpoint_rules c ≡ true
  pub small : c.inode.size ≤ FIRST_OBJECT_BYTES
  pub numbers : CheckpointNumbers c
  pub spelled : block ≡ small_spelling c

-- the checkpoint that a first block without parts encodes
unfoldable pub small_checkpoint_in : List ℕ → Option CheckpointFields
small_checkpoint_in block = do
  f ← all_of first_at block
  first ← kept (nat_le f.size FIRST_OBJECT_BYTES && are_holes f.parts) f
  joined first (holes CHECKPOINT_POINTERS) (holes CHECKPOINT_POINTERS) (holes CHECKPOINT_POINTERS)
