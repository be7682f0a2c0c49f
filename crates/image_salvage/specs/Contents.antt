-- The bytes of an object that whole frames have.
use Rattle.std.specs.Prelude.{ℕ, ◌*◌, ◌&&◌, Bool, false, nat_lt, List, [], Option, None, Some, is_none, unwrap_or}
use Rattle.std.specs.List.{count_by, range_with_len}
use Rattle.s4_types.specs.Pointer.{Place}
use Rattle.s4_types.specs.declared.limits.TheConstants.{OBJECT_BLOCKS}
use Rattle.block_log.specs.Log.{Stored, of_kind}
use Rattle.block_log.specs.declared.kinds.BlockKind.TheVariants.{Data}
use Rattle.codec.specs.Checkpoint.{pointer_at}
use Rattle.codec.specs.declared.inodes.Inode.{Inode}
use Rattle.inode.specs.Contents.{bytes_of}

-- the bytes of an object's data block at a place; none where none of it is used there
abbrev pub data_of : (Place → Option Stored) → ℕ → Place → List ℕ
data_of used o = λ p. unwrap_or (of_kind Data o used p) []

-- the bytes of an inode of an object: zeros represent what is gone
abbrev pub salvaged_bytes : (Place → Option Stored) → ℕ → Inode → List ℕ
salvaged_bytes used o i = bytes_of (data_of used o) i

-- whether a pointer refers to no data block of the object
abbrev pub leads_nowhere : (Place → Option Stored) → ℕ → Option Place → Bool
leads_nowhere used o None = false
leads_nowhere used o (Some p) = is_none (of_kind Data o used p)

-- whether the block of an index is within the size of an inode, and gone
abbrev pub is_gone : (Place → Option Stored) → ℕ → Inode → ℕ → Bool
is_gone used o i k = nat_lt (512 * k) i.size && leads_nowhere used o (pointer_at i k)

-- how many are, of the first n
unfoldable pub gone_below : (Place → Option Stored) → ℕ → Inode → ℕ → ℕ
gone_below used o i n = count_by (is_gone used o i) (range_with_len 0 n)

-- of all
abbrev pub blocks_gone : (Place → Option Stored) → ℕ → Inode → ℕ
blocks_gone used o i = gone_below used o i OBJECT_BLOCKS
