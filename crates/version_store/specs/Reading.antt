-- What is read of an object of a store, and why it isn't.
use Rattle.std.specs.Prelude.{◌≡◌, ◌≤◌, ◌⊎◌, ℕ, true, false, Some}
use Rattle.s4_types.specs.declared.limits.TheConstants.{OBJECT_BYTES}
use Rattle.s4_types.specs.declared.refusals.Refusal.{Refusal}
use Rattle.s4_types.specs.declared.refusals.Refusal.TheVariants.{NoObject}
use Rattle.s4_types.specs.declared.versions.Version.TheVariants.{Absent}
use Rattle.codec.specs.declared.inodes.Inode.{Inode}
use Rattle.time_read.specs.Within.{AgreesWithin}
use Rattle.time_read.specs.declared.block_ranges.BlockRange.{BlockRange}
use Rattle.version_store.specs.Store.{StoreFields}
use Rattle.version_store.specs.Versions.{inode_in, version_in}

-- an object has a live inode at a moment, and this holds of it
pub record HasLive (s : StoreFields) (o t : ℕ) (Holds : Inode → Type 0) : Type 0 where
  pub inode : Inode
  pub there : inode_in s o t ≡ Some inode
  pub alive : inode.alive ≡ true
  pub holds : Holds inode

-- an object isn't read at a moment: it is absent then, or by its live inode it is refused
abbrev pub IsUnread : StoreFields → ℕ → ℕ → (Inode → Type 0) → Refusal → Type 0
IsUnread s o t Refuses e = ((e ≡ NoObject) × (version_in s o t ≡ Absent)) ⊎ HasLive s o t Refuses

-- by an inode an object isn't read: it is dead, or it is alive and refused
abbrev pub IsUnreadBy : Inode → (Inode → Type 0) → Refusal → Type 0
IsUnreadBy i Refuses e = ((e ≡ NoObject) × (i.alive ≡ false)) ⊎ ((i.alive ≡ true) × Refuses i)

-- What holds of an inode holds of each one that agrees with it within a range of blocks.
abbrev pub RestsOn : BlockRange → (Inode → Type 0) → Type 0
RestsOn range Holds = (i j : Inode) → i.size ≤ OBJECT_BYTES → AgreesWithin range i j → Holds i → Holds j
