-- What becomes of a table's blocks where an object's checkpoint and its whole journal are written anew.
use Rattle.std.specs.Prelude.{◌≡◌, ℕ, ◌+◌, false, ◌==◌, ◌&&◌, ◌||◌, List, Option}
use Rattle.s4_types.specs.Pointer.{Place}
use Rattle.block_log.specs.declared.kinds.BlockKind.{BlockKind}
use Rattle.block_log.specs.declared.kinds.BlockKind.TheVariants.{Journal}
use Rattle.block_log.specs.Log.{Stored, of_kind, same_kind}
use Rattle.codec.specs.Entry.{EntryFields}
use Rattle.codec.specs.declared.inodes.Inode.{Inode}
use Rattle.checkpoint.specs.Held.{is_checkpoint_kind, checkpoint_blocks}
use Rattle.journal_chain.specs.Push.{whole_blocks}

-- of all views, those of the object's journal and of its checkpoints alone have changed
abbrev pub OnlyMetadataChanged : ℕ → (Place → Option Stored) → (Place → Option Stored) → Type 0
OnlyMetadataChanged o held later = (kind : BlockKind) (other : ℕ) → ((same_kind Journal kind || is_checkpoint_kind kind) && o == other) ≡ false → of_kind kind other later ≡ of_kind kind other held

-- how many blocks a checkpoint of an inode and a whole chain of these entries are
abbrev pub rewritten_blocks : Inode → List EntryFields → ℕ
rewritten_blocks present entries = checkpoint_blocks present + whole_blocks entries
