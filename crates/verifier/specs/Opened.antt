-- A drive that is opened from an image: what it has, and what its history begins with, told by the parts of the image.
use Rattle.std.specs.Prelude.{◌≡◌, ℕ, ◌==◌, if◌then◌else◌, List, [], ◌∷◌, Option, Some, None, map}
use Rattle.s4_types.specs.Pointer.{Place}
use Rattle.s4_types.specs.History.{Base}
use Rattle.s4_types.specs.declared.versions.Version.{Version}
use Rattle.s4_model.specs.VersionAt.{current_of, versions_of}
use Rattle.block_log.specs.Log.{Stored}
use Rattle.codec.specs.declared.inodes.Inode.{Inode}
use Rattle.segment_word.specs.AcceptViews.{begun}
use Rattle.segment_table.specs.Table.{Table}
use Rattle.segment_table.specs.Used.{used_at}
use Rattle.segment_table.specs.Room.{log_of}
use Rattle.version_store.specs.Store.{fields_of}
use Rattle.version_store.specs.Opening.{rows_opened}
use Rattle.version_store.specs.Versions.{version_by}
use Rattle.drive.specs.Fields.{DriveFields}
use Rattle.drive.specs.Opened.{OpenedFields, base_of, IsListed}
use Rattle.image_parts.specs.Image.{Image}
use Rattle.image_objects.specs.declared.rows.ImageRow.{ImageRow}
use Rattle.image_objects.specs.Objects.{inode_used}
use Rattle.verifier.specs.Tables.{IsTableOf}
use Rattle.verifier.specs.Rows.{SpellRows}
use Rattle.verifier.specs.Audit.{audit_part}
use Rattle.verifier.specs.Grammar.{SpellsDrive}
use Rattle.verifier.specs.Images.{ImageFields, IsImageOf}

-- An opened drive has what an image has: its frames with what they are used for and hold, its rows, its spans, its numbers and the rows
-- of its audit; and its last change was at the image's clock.
pub record IsOpenedOf (image : ImageFields) (d : OpenedFields) : Type 0 where
  pub frames : d.store.table.seat.frames ≡ image.table.seat.frames
  pub slots : d.store.table.slots ≡ image.table.slots
  pub rows : d.store.rows ≡ rows_opened image.objects
  pub latest : d.store.latest ≡ image.clock
  pub clock : d.timeline.clock ≡ image.clock
  pub window : d.timeline.window ≡ image.window
  pub floor : d.timeline.floor ≡ image.floor
  pub spans : d.timeline.runs ≡ image.spans
  pub next : d.next ≡ image.next
  pub audit : d.audit ≡ image.audit

-- the inode of an object that is current at a moment, by the rows of an image over its used blocks; none where no row is the object's
abbrev pub inode_of_rows : (Place → Option Stored) → List ImageRow → ℕ → ℕ → Option Inode
inode_of_rows used [] o t = None
inode_of_rows used (row ∷ rows) o t = if row.object == o then Some (inode_used used row t) else inode_of_rows used rows o t

-- the version of an object at a moment: what that inode represents over the used blocks, and Absent where there is none
abbrev pub version_of_rows : (Place → Option Stored) → List ImageRow → ℕ → ℕ → Version
version_of_rows used rows o t = version_by used (inode_of_rows used rows o t)

-- A base is what the parts of an image tell. It has their clock, window, floor, next number and spans, and the audit rows that they encode; and at each moment it tells of each
-- object the version that their rows tell, as their bytes encode these, over the used blocks of their frames. It lists each object once, by
-- ascending moments.
pub record IsToldBy (parts : Image) (base : Base) : Type 0 where
  pub clock : base.clock ≡ parts.clock
  pub window : base.window ≡ parts.window
  pub floor : base.floor ≡ parts.floor
  pub next : base.next ≡ parts.next
  pub spans : base.spans ≡ parts.spans
  pub audit : parts.audit ≡ map audit_part base.audit
  pub table : Table
  pub frames : IsTableOf parts.frames table
  pub rows : List ImageRow
  pub spelled : SpellRows parts.rows rows
  pub versions : (o t : ℕ) → current_of (versions_of base.versions o) t ≡ version_of_rows (used_at table) rows o t
  pub listed : IsListed base.versions

-- what a drive begins with that was opened
abbrev pub begins_with : OpenedFields → Base
begins_with d = base_of (fields_of log_of d.store) d.timeline d.next d.audit

-- Bytes are the image of a drive, and this is what was read of them.
pub record IsReadOf (bytes : List ℕ) (image : ImageFields) : Type 0 where
  pub parts : Image
  pub spelled : SpellsDrive bytes parts
  pub told : IsImageOf parts image

-- Bytes are the image of a drive, and they tell this base.
pub record TellsBase (bytes : List ℕ) (base : Base) : Type 0 where
  pub parts : Image
  pub spelled : SpellsDrive bytes parts
  pub told : IsToldBy parts base

-- A drive is the opened one under a name: its history is just what that one begins with, and its objects are the same.
pub record IsNamedOf (opened : OpenedFields) (d : DriveFields) : Type 0 where
  pub ledger : d.ledger ≡ begun (base_of (fields_of log_of opened.store) opened.timeline opened.next opened.audit)
  pub store : d.store ≡ opened.store
  pub audit : d.audit ≡ opened.audit
