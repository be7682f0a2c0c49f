-- What an inode means over the blocks that its pointers refer to.
use Rattle.std.specs.Prelude.{ℕ, ◌/◌, ◌%◌, if◌then◌else◌, List, [], map, slice_index, Option, None, Some}
use Rattle.std.specs.List.{range_with_len}
use Rattle.s4_types.specs.Pointer.{Place}
use Rattle.s4_types.specs.declared.versions.Version.{Version}
use Rattle.s4_types.specs.declared.versions.Version.TheVariants.{Absent, Live}
use Rattle.block_log.specs.Log.{Stored}
use Rattle.codec.specs.Checkpoint.{pointer_at}
use Rattle.codec.specs.declared.inodes.Inode.{Inode}

-- a block's bytes; none where there is no block
abbrev pub bytes_stored : Option Stored → List ℕ
bytes_stored None = []
bytes_stored (Some block) = block.bytes

-- the bytes of the block that is held at each place; none where no block is
abbrev pub contents_of : (Place → Option Stored) → Place → List ℕ
contents_of held = λ p. bytes_stored (held p)

-- the byte of that index in the block that a slot refers to: 0 in a hole, and past a block's end
abbrev pub byte_in : (Place → List ℕ) → Option Place → ℕ → ℕ
byte_in contents None n = 0
byte_in contents (Some p) n = slice_index (contents p) n

-- an inode's byte at a place of the object, wherever its size ends: blocks of 512 bytes, joined by their index
unfoldable pub byte_of : (Place → List ℕ) → Inode → ℕ → ℕ
byte_of contents i n = byte_in contents (pointer_at i (n / 512)) (n % 512)

-- what a function gives at this many numbers from the first one on, in order
unfoldable pub listed : (ℕ → ℕ) → ℕ → ℕ → List ℕ
listed f first count = map f (range_with_len first count)

-- the bytes of an inode: those of its blocks, cut to its size
abbrev pub bytes_of : (Place → List ℕ) → Inode → List ℕ
bytes_of contents i = listed (byte_of contents i) 0 i.size

-- the version that an inode represents: a dead one for none
abbrev pub meaning : (Place → List ℕ) → Inode → Version
meaning contents i = if i.alive then Live (bytes_of contents i) i.attribute i.created i.changed else Absent
