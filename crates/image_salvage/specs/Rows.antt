-- What is salvaged by a row of an image, over the used blocks of whole frames.
use Rattle.std.specs.Prelude.{◌≡◌, ℕ, ◌-◌, ◌^◌, Option, MatchOption}
use Rattle.s4_types.specs.Pointer.{Place}
use Rattle.block_log.specs.Log.{Stored}
use Rattle.codec.specs.declared.inodes.Inode.{Inode}
use Rattle.image_parts.specs.declared.rows.RowPart.{RowPart}
use Rattle.image_objects.specs.declared.rows.ImageRow.{ImageRow}
use Rattle.image_objects.specs.VersionChain.{VersionChainStands, present_used}
use Rattle.verifier.specs.Rows.{SpellsRow}
use Rattle.image_salvage.specs.declared.rows.Salvaged.{Salvaged}

-- the last moment that there is: the clock of a damaged image isn't trusted
abbrev pub last_moment : ℕ
last_moment = 2 ^ 64 - 1

-- The present inode of the object of a row: its bytes encode a row whose version chain stands, and the inode is after all its entries.
pub record IsPresentOf (used : Place → Option Stored) (part : RowPart) (inode : Inode) : Type 0 where
  pub row : ImageRow
  pub spelled : SpellsRow part row
  pub stands : VersionChainStands used row last_moment
  pub present : inode ≡ present_used used row

-- it gives one
abbrev pub IsThere : (Place → Option Stored) → RowPart → Type 0
IsThere used part = (inode : Inode) × IsPresentOf used part inode

-- The object of a row is lost: its bytes encode no row whose version chain stands.
abbrev pub IsLost : (Place → Option Stored) → RowPart → Type 0
IsLost used part = (row : ImageRow) → SpellsRow part row → VersionChainStands used row last_moment → ⊥

-- what a row gives: its object, with the present inode exactly where it isn't lost
pub record IsSalvagedBy (used : Place → Option Stored) (part : RowPart) (salvaged : Salvaged) : Type 0 where
  pub object : salvaged.object ≡ part.object
  pub present : MatchOption salvaged.present (IsLost used part) (IsPresentOf used part)
