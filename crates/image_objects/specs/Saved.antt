-- The rows of a store as an image's: what a drive that is saved writes of them.
use Rattle.std.specs.Prelude.{◌≡◌, ◌⊎◌, ℕ, ◌+◌, ◌≤◌, true, List, [], ◌∷◌, map, Option, Some}
use Rattle.s4_types.specs.Pointer.{Place}
use Rattle.block_log.specs.Log.{Stored}
use Rattle.checkpoint.specs.Held.{of_checkpoints, is_checkpoint_kind, is_one_of}
use Rattle.object_map.specs.declared.map.Row.{Row}
use Rattle.object_map.specs.Rows.{row_of}
use Rattle.version_store.specs.Store.{StoreFields, pointers_of}
use Rattle.time_read.specs.Rows.{entries_of, first_of, inode_of, side_places}
use Rattle.image_objects.specs.declared.rows.ImageRow.{ImageRow}
use Rattle.image_objects.specs.Chains.{entries_used}
use Rattle.image_objects.specs.Inodes.{first_used}
use Rattle.image_objects.specs.VersionChain.{kept_row}
use Rattle.image_objects.specs.Naming.{IsNamedBy}
use Rattle.image_objects.specs.Objects.{pointers_used, inode_used}

-- the row of an image that the row of a drive's object is saved as
abbrev pub saved_row : ℕ → Row → ImageRow
saved_row o row = record { object = o; created = row.created; checkpoint = row.checkpoint; checkpoint_moment = row.checkpoint_moment; head = row.head }

-- the rows of an image that those of a drive are saved as, in order
abbrev pub saved_rows : List (ℕ × Row) → List ImageRow
saved_rows rows = map (λ e. saved_row e.0 e.1) rows

-- each block that is held is used, as it is held
abbrev pub HoldsUsed : (Place → Option Stored) → (Place → Option Stored) → Type 0
HoldsUsed used held = (p : Place) (block : Stored) → held p ≡ Some block → used p ≡ Some block

-- objects ascend strictly, from this number on
abbrev pub ObjectsAscend : ℕ → List (ℕ × Row) → Type 0
ObjectsAscend low [] = Unit {0}
ObjectsAscend low (e ∷ rows) = (low ≤ e.0) × ObjectsAscend (e.0 + 1) rows

-- A row that is saved tells over the used blocks what it tells over those that are held: the entries, the first inode, at each
-- moment the inode, and the pointers that it refers to. And the drive that is opened again keeps the same row, but for the older
-- checkpoints that it names.
pub record IsSavedAsHeld (used held : Place → Option Stored) (o : ℕ) (row : Row) : Type 0 where
  pub entries : entries_used used (saved_row o row) ≡ entries_of held o row
  pub first : first_used used (saved_row o row) ≡ first_of held o row
  pub inodes : (t : ℕ) → inode_used used (saved_row o row) t ≡ inode_of held o row t
  pub pointers : pointers_used used (saved_row o row) ≡ pointers_of held o row
  pub kept : kept_row used (saved_row o row) row.stamp ≡ record row { sides = [] }

-- a block is one of an older checkpoint that its object's row in a store names
pub record IsAside (s : StoreFields) (p : Place) (block : Stored) : Type 0 where
  pub row : Row
  pub there : row_of s.rows block.object ≡ Some row
  pub kind : is_checkpoint_kind block.kind ≡ true
  pub among : is_one_of (side_places (of_checkpoints block.object s.log.held) row.sides) p ≡ true

-- What a store holds of the used blocks of an image that it is saved as: those that the rows of the image name, and beside them
-- the blocks of older checkpoints alone, which a drive that is opened again holds no more.
pub record HoldsWhatIsSaved (used : Place → Option Stored) (s : StoreFields) : Type 0 where
  pub kept : HoldsUsed used s.log.held
  pub named : (p : Place) (block : Stored) → s.log.held p ≡ Some block → IsNamedBy used (saved_rows s.rows) p block ⊎ IsAside s p block
  pub all : (p : Place) (block : Stored) → used p ≡ Some block → IsNamedBy used (saved_rows s.rows) p block → s.log.held p ≡ Some block
