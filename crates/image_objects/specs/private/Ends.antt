-- The bytes of a block from an index on.
use Rattle.std.specs.Prelude.{◌≡◌, ℕ, ◌/◌, ◌%◌, ◌<◌, ◌≤◌, List, Option}
use Rattle.s4_types.specs.Pointer.{Place}
use Rattle.s4_types.specs.declared.limits.TheConstants.{BLOCK_BYTES}
use Rattle.codec.specs.declared.inodes.Inode.{Inode}
use Rattle.codec.specs.Checkpoint.{pointer_at}
use Rattle.inode.specs.Contents.{byte_in}

-- the bytes that a slot refers to are zeros from this index on
abbrev pub HasZerosFrom : (Place → List ℕ) → Option Place → ℕ → Type 0
HasZerosFrom contents slot first = (n : ℕ) → first ≤ n → n < BLOCK_BYTES → byte_in contents slot n ≡ 0

-- so are those of an inode from its size on, up to the end of the block that the size ends in
abbrev pub EndsInZeros : (Place → List ℕ) → Inode → Type 0
EndsInZeros contents i = HasZerosFrom contents (pointer_at i (i.size / 512)) (i.size % 512)
