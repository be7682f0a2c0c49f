-- Which blocks of an object a write touches, and whether a truncation cuts one.
use Rattle.std.specs.Prelude.{◌≡◌, ℕ, ◌+◌, ◌-◌, ◌/◌, ◌%◌, ◌<◌, ◌≤◌, ◌==◌, ◌&&◌, not, nat_lt, nat_le, Bool, if◌then◌else◌, is_some}
use Rattle.codec.specs.Checkpoint.{pointer_at}
use Rattle.codec.specs.declared.inodes.Inode.{Inode}

-- how many blocks have a byte of a write of this length at an offset
abbrev pub touched_count : ℕ → ℕ → ℕ
touched_count offset len = if len == 0 then 0 else (offset + len - 1) / 512 + 1 - offset / 512

-- the block of this index has a byte of the write: one of the blocks from that of the first byte on
abbrev pub is_touched : ℕ → ℕ → ℕ → Bool
is_touched offset len k = nat_le (offset / 512) k && nat_lt k (offset / 512 + touched_count offset len)

-- a truncation to this size cuts a block in two, and the block isn't a hole
abbrev pub is_cut : Inode → ℕ → Bool
is_cut i size = nat_lt size i.size && (not (size % 512 == 0) && is_some (pointer_at i (size / 512)))

-- how many blocks a truncation to this size appends
abbrev pub cut_count : Inode → ℕ → ℕ
cut_count i size = if is_cut i size then 1 else 0

-- some byte of a write of this length at an offset is in the block of this index
abbrev pub HasByteIn : ℕ → ℕ → ℕ → Type 0
HasByteIn offset len k = (n : ℕ) × (offset ≤ n) × (n < offset + len) × (n / 512 ≡ k)
