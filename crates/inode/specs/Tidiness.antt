-- What holds of an inode's size and pointers between changes, over the blocks that are held.
use Rattle.std.specs.Prelude.{◌≡◌, ℕ, ◌*◌, ◌≤◌, List, length, Option, None, Some, IsSome}
use Rattle.s4_types.specs.declared.limits.TheConstants.{OBJECT_BLOCKS, OBJECT_BYTES}
use Rattle.s4_types.specs.Pointer.{Place}
use Rattle.block_log.specs.Log.{Stored, of_kind}
use Rattle.block_log.specs.declared.kinds.BlockKind.TheVariants.{Data}
use Rattle.codec.specs.Checkpoint.{pointer_at}
use Rattle.codec.specs.declared.inodes.Inode.{Inode}
use Rattle.inode.specs.Contents.{byte_of}

-- An inode of OBJECT_BLOCKS pointers, within the limit, with holes at and past its size and zeros after its last byte. So the
-- byte at a place is that of the object, or 0 past its end.
pub record Tidy (contents : Place → List ℕ) (i : Inode) : Type 0 where
  pub count : length i.pointers ≡ OBJECT_BLOCKS
  pub size : i.size ≤ OBJECT_BYTES
  pub holes : (k : ℕ) → i.size ≤ 512 * k → pointer_at i k ≡ None
  pub zeros : (n : ℕ) → i.size ≤ n → byte_of contents i n ≡ 0

-- each pointer of the inode refers to a block
abbrev pub PointersLead : (Place → Option Stored) → Inode → Type 0
PointersLead held i = (k : ℕ) (p : Place) → pointer_at i k ≡ Some p → IsSome (held p)

-- each pointer of the inode refers to a data block of the object
abbrev pub PointersHeld : (Place → Option Stored) → ℕ → Inode → Type 0
PointersHeld held object i = (k : ℕ) (p : Place) → pointer_at i k ≡ Some p → IsSome (of_kind Data object held p)

-- two contents have the same bytes wherever a pointer of the inode leads
abbrev pub AgreeAt : (Place → List ℕ) → (Place → List ℕ) → Inode → Type 0
AgreeAt contents others i = (k : ℕ) (p : Place) → pointer_at i k ≡ Some p → others p ≡ contents p
