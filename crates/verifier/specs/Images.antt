-- What contracts see of an image that was verified, and what holds of it.
use Rattle.std.specs.Prelude.{◌≡◌, ℕ, ◌+◌, ◌-◌, ◌≤◌, List, length, map}
use Rattle.std.specs.List.{All, AllByRecursion}
use Rattle.s4_types.specs.declared.audit_rows.AuditRow.{AuditRow}
use Rattle.s4_types.specs.declared.spans.Span.{Span}
use Rattle.s4_types.specs.declared.limits.TheConstants.{RUNS_IN_ALL}
use Rattle.s4_model.specs.Audit.{AreAuditRows}
use Rattle.s4_model.specs.Sound.{IsOfGiven}
use Rattle.image_parts.specs.Image.{Image}
use Rattle.image_objects.specs.declared.rows.ImageRow.{ImageRow}
use Rattle.image_objects.specs.Naming.{HoldsWhatIsNamed}
use Rattle.segment_table.specs.Table.{Table, held_at}
use Rattle.segment_table.specs.Used.{used_at}
use Rattle.segment_table.specs.Room.{log_of}
use Rattle.version_store.specs.Store.{StoreFields, IsStore}
use Rattle.version_store.specs.Opening.{OpenedFields, FitsItsRow, NumbersAscend, numbers_opened, rows_opened}
use Rattle.window.specs.Runs.{Ascend, AllBeginFrom, AllEndBefore, AreFewInEachList}
use Rattle.drive.specs.Opened.{NoneFrom}
use Rattle.verifier.specs.Tables.{IsTableOf}
use Rattle.verifier.specs.Rows.{SpellRows}
use Rattle.verifier.specs.Reading.{AreKept}
use Rattle.verifier.specs.Audit.{audit_part}

-- an image: the numbers of its drive, its frames with what their blocks are for and which are held, its objects, its spans and
-- the rows of its audit
pub record ImageFields : Type 0 where
  pub clock : ℕ
  pub window : ℕ
  pub floor : ℕ
  pub next : ℕ
  pub table : Table
  pub objects : List OpenedFields
  pub spans : List Span
  pub audit : List AuditRow

-- the store that a drive has of an image
abbrev pub store_in : ImageFields → StoreFields
store_in image = record { rows = rows_opened image.objects; log = log_of image.table; latest = image.clock }

-- An image that was verified can be opened: its objects make a store over what is held, with what is beside their rows; its
-- spans are a window's, its numbers and the rows of its audit a drive's.
pub record CanBeOpened (image : ImageFields) : Type 0 where
  pub store : IsStore (store_in image)
  pub ascending : NumbersAscend (numbers_opened image.objects)
  pub beside : All (FitsItsRow (log_of image.table).held image.clock) image.objects
  pub unborn : NoneFrom image.next (store_in image)
  pub below : image.floor ≤ image.clock
  pub reach : image.clock - image.window ≤ image.floor
  pub numbered : 1 ≤ image.next
  pub given_by : image.next ≤ image.clock + 1
  pub ordered : Ascend image.spans
  pub from_floor : AllBeginFrom image.floor image.spans
  pub past : AllEndBefore image.clock image.spans
  pub given : AllByRecursion (IsOfGiven image.next) image.spans
  pub few : length image.spans ≤ RUNS_IN_ALL
  pub few_in_each_list : AreFewInEachList image.spans
  pub audit : AreAuditRows image.floor image.clock image.next image.audit

-- An image is what these parts tell: it has their numbers and spans and the audit rows that they encode, its table is that of their frames, its objects are those
-- that their rows encode, and of their used blocks just those are held that these rows name.
pub record IsImageOf (parts : Image) (image : ImageFields) : Type 0 where
  pub clock : image.clock ≡ parts.clock
  pub window : image.window ≡ parts.window
  pub floor : image.floor ≡ parts.floor
  pub next : image.next ≡ parts.next
  pub spans : image.spans ≡ parts.spans
  pub audit : parts.audit ≡ map audit_part image.audit
  pub frames : IsTableOf parts.frames image.table
  pub rows : List ImageRow
  pub spelled : SpellRows parts.rows rows
  pub objects : AreKept (used_at image.table) rows image.objects
  pub held : HoldsWhatIsNamed (used_at image.table) (held_at image.table) rows
