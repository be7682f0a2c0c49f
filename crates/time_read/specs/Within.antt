-- An inode that was led back for some of its blocks alone.
use Rattle.std.specs.Prelude.{◌≡◌, ℕ, ◌<◌, ◌≤◌, ◌⊎◌, length}
use Rattle.codec.specs.Checkpoint.{pointer_at}
use Rattle.codec.specs.declared.inodes.Inode.{Inode}
use Rattle.time_read.specs.declared.block_ranges.BlockRange.{BlockRange}

-- a range has the block of this index
abbrev pub IsIn : BlockRange → ℕ → Type 0
IsIn range k = (range.first ≤ k) × (k < range.end)

-- an inode is another one, but for pointers to blocks that aren't in a range
pub record AgreesWithin (range : BlockRange) (i j : Inode) : Type 0 where
  pub alive : i.alive ≡ j.alive
  pub size : i.size ≡ j.size
  pub created : i.created ≡ j.created
  pub changed : i.changed ≡ j.changed
  pub attribute : i.attribute ≡ j.attribute
  pub count : length i.pointers ≡ length j.pointers
  pub pointers : (k : ℕ) → IsIn range k → pointer_at i k ≡ pointer_at j k

-- From a present inode one was made that agrees with a past one within a range; outside of it each pointer is the past or the
-- present one.
pub record IsLedWithin (range : BlockRange) (present past i : Inode) : Type 0 where
  pub agrees : AgreesWithin range i past
  pub pointers : (k : ℕ) → (pointer_at i k ≡ pointer_at past k) ⊎ (pointer_at i k ≡ pointer_at present k)
