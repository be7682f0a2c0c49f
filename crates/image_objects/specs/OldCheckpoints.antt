-- What a checkpoint is in an image without blocks for more of its pointers, as those of the first
-- version are.
use Rattle.std.specs.Prelude.{◌≡◌, ◌↔◌, ℕ, ◌≤◌, Option, Some, None}
use Rattle.s4_types.specs.Pointer.{Place}
use Rattle.block_log.specs.Log.{Stored, of_kind}
use Rattle.block_log.specs.declared.kinds.BlockKind.TheVariants.{Checkpoint, Pointers}
use Rattle.codec.specs.Fields.{◌>>=◌}
use Rattle.codec.specs.Checkpoint.{CheckpointFields}
use Rattle.codec.specs.SmallCheckpoint.{small_checkpoint_in}
use Rattle.codec.specs.declared.versions.TheConstants.{FIRST_OBJECT_BYTES}
use Rattle.checkpoint.specs.Held.{checkpoint_held}

-- Where none of the object's blocks is used for more pointers of a checkpoint, a checkpoint of an
-- object that the first version may have is what its one block encodes in that version, and the
-- other way round.
abbrev pub AnOldCheckpointIsOneBlock : Type 0
AnOldCheckpointIsOneBlock =
    (used : Place → Option Stored) (o : ℕ) (p : Place) (c : CheckpointFields) → ((q : Place) → of_kind Pointers o used q ≡ None)
    → ((checkpoint_held used o p ≡ Some c) × (c.inode.size ≤ FIRST_OBJECT_BYTES)) ↔ ((of_kind Checkpoint o used p >>= small_checkpoint_in) ≡ Some c)
