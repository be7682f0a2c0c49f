-- What the upkeep of frames leaves of the objects of a store.
use Rattle.std.specs.Prelude.{◌≡◌, ℕ, ◌≤◌}
use Rattle.version_store.specs.Store.{StoreFields}
use Rattle.version_store.specs.Versions.{inode_in, version_in}

-- The objects of a store are as they were, by their rows, what is held, the last change, and their inodes and versions at
-- each moment; no fewer places were ever taken.
pub record KeepsObjects (s later : StoreFields) : Type 0 where
  pub held : later.log.held ≡ s.log.held
  pub rows : later.rows ≡ s.rows
  pub latest : later.latest ≡ s.latest
  pub spent : s.log.spent ≤ later.log.spent
  pub inodes : (o t : ℕ) → inode_in later o t ≡ inode_in s o t
  pub versions : (o t : ℕ) → version_in later o t ≡ version_in s o t
