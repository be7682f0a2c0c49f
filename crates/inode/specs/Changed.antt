-- What each change makes of an inode, and the bytes of the blocks that it appends.
use Rattle.std.specs.Prelude.{◌≡◌, ℕ, ◌+◌, ◌-◌, ◌*◌, ◌/◌, ◌==◌, ◌&&◌, nat_lt, nat_le, max, if◌then◌else◌, List, map, length, slice_get, slice_index, None}
use Rattle.std.specs.List.{range_with_len}
use Rattle.s4_types.specs.Pointer.{Place}
use Rattle.codec.specs.Checkpoint.{pointer_at}
use Rattle.codec.specs.declared.inodes.Inode.{Inode}
use Rattle.inode.specs.Contents.{byte_of, listed}
use Rattle.inode.specs.Touched.{touched_count, is_touched, is_cut, cut_count}

-- the byte at a place after a write: the written one, or what was there
unfoldable pub byte_written : (Place → List ℕ) → Inode → ℕ → List ℕ → ℕ → ℕ
byte_written contents i offset bytes n = if nat_le offset n && nat_lt n (offset + length bytes) then slice_index bytes (n - offset) else byte_of contents i n

-- the byte at a place after a truncation: what was there, or 0 past the size
unfoldable pub byte_cut : (Place → List ℕ) → Inode → ℕ → ℕ → ℕ
byte_cut contents i size n = if nat_lt n size then byte_of contents i n else 0

-- the 512 bytes of the block of an index, where the bytes of an object are told by their places
abbrev pub block_of : (ℕ → ℕ) → ℕ → List ℕ
block_of bytes_at k = listed bytes_at (512 * k) 512

-- this many such blocks from an index on, by ascending index
unfoldable pub listed_blocks : (ℕ → ℕ) → ℕ → ℕ → List (List ℕ)
listed_blocks bytes_at first count = map (block_of bytes_at) (range_with_len first count)

-- the blocks that a write appends: each one that it touches
abbrev pub blocks_written : (Place → List ℕ) → Inode → ℕ → List ℕ → List (List ℕ)
blocks_written contents i offset bytes = listed_blocks (byte_written contents i offset bytes) (offset / 512) (touched_count offset (length bytes))

-- the block that a truncation appends, where it cuts one
abbrev pub blocks_cut : (Place → List ℕ) → Inode → ℕ → List (List ℕ)
blocks_cut contents i size = listed_blocks (byte_cut contents i size) (size / 512) (cut_count i size)

-- the size after a write: an empty one doesn't move it
abbrev pub size_written : ℕ → ℕ → ℕ → ℕ
size_written size offset len = if len == 0 then size else max size (offset + len)

-- The inode after a write: it keeps whether it is alive, its attribute and its created moment; each touched pointer is
-- the next place ahead, all others are as before.
pub record Written (ahead : List Place) (moment offset len : ℕ) (before after : Inode) : Type 0 where
  pub alive : after.alive ≡ before.alive
  pub attribute : after.attribute ≡ before.attribute
  pub created : after.created ≡ before.created
  pub changed : after.changed ≡ moment
  pub size : after.size ≡ size_written before.size offset len
  pub pointers : (k : ℕ) → pointer_at after k ≡ (if is_touched offset len k then slice_get ahead (k - offset / 512) else pointer_at before k)

-- The inode after a truncation: pointers past the new end are holes, that of a block that is cut is the next place
-- ahead, all others are as before.
pub record Truncated (ahead : List Place) (moment new_size : ℕ) (before after : Inode) : Type 0 where
  pub alive : after.alive ≡ before.alive
  pub attribute : after.attribute ≡ before.attribute
  pub created : after.created ≡ before.created
  pub changed : after.changed ≡ moment
  pub size : after.size ≡ new_size
  pub pointers : (k : ℕ) → pointer_at after k ≡ (if nat_le new_size (512 * k) then None else if is_cut before new_size && k == new_size / 512 then slice_get ahead 0 else pointer_at before k)
