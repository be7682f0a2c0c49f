-- The new image as it is written. No public clause cites this file.
use Rattle.std.specs.Prelude.{◌≡◌, ℕ, ◌<◌, ◌^◌, List, length, map}
use Rattle.std.specs.List.{AllByRecursion}
use Rattle.s4_types.specs.Sizes.{IsFrameCount}
use Rattle.s4_types.specs.declared.audit_rows.AuditRow.{AuditRow}
use Rattle.s4_model.specs.Audit.{AreAuditRows}
use Rattle.object_map.specs.declared.map.Row.{Row}
use Rattle.segment_table.specs.Room.{log_of}
use Rattle.segment_table.specs.Table.{Table}
use Rattle.segment_table.specs.Used.{HoldsUsedBlocks}
use Rattle.image_parts.specs.Audit.{IsAuditPart}
use Rattle.image_parts.specs.Frames.{FrameFields, IsFrame, KeepFrameRules}
use Rattle.image_parts.specs.Marks.{records_of}
use Rattle.image_parts.specs.Image.{Image, IsImage, KeepsRulesBy, image_bytes}
use Rattle.image_parts.specs.Rows.{IsRow}
use Rattle.image_parts.specs.declared.audit.AuditPart.{AuditPart}
use Rattle.image_parts.specs.declared.headers.Header.{Header}
use Rattle.image_parts.specs.declared.marks.ImageMark.{ImageMark}
use Rattle.image_parts.specs.declared.rows.RowPart.{RowPart}
use Rattle.image_objects.specs.declared.rows.ImageRow.{ImageRow}
use Rattle.verifier.specs.Audit.{audit_part}
use Rattle.verifier.specs.Rows.{SpellRows}
use Rattle.verifier.specs.Tables.{IsTableOf}
use Rattle.earlier_images.specs.Images.{EarlierFields, IsEarlierOf}
use Rattle.earlier_images.specs.Used.{used_in}
use Rattle.migration.specs.Frames.{FillsFrames, frames_needed, fresh_log}
use Rattle.migration.specs.Rows.{CopyRows, blocks_of_rows}
use Rattle.migration.specs.Migrated.{rows_then}

-- These are the parts of rows whose objects have these rows in a table.
pub record ArePartsOf (rows : List ImageRow) (laters : List Row) (parts : List RowPart) : Type 0 where
  pub spelled : SpellRows parts (rows_then rows laters)
  pub are : AllByRecursion IsRow parts

-- the header of an image with an old one's numbers, and with as many frames, rows, spans and audit rows
abbrev pub header_with : EarlierFields → (frames rows spans audit : ℕ) → Header
header_with old frames rows spans audit = record { frames = frames; clock = old.clock; window = old.window; floor = old.floor; next = old.next; rows = rows; spans = spans; audit = audit }

-- The bytes are those of an image with the numbers and spans of an old one, the frames of a table, these rows, and audit rows.
pub record AreBytesOf (old : EarlierFields) (audit : List AuditPart) (t : Table) (laters : List Row) (bytes : List ℕ) : Type 0 where
  pub frames : List FrameFields
  pub are_frames : AllByRecursion IsFrame frames
  pub rules : KeepFrameRules frames
  pub table : IsTableOf frames t
  pub parts : List RowPart
  pub rows : ArePartsOf old.rows laters parts
  pub bytes_are : bytes ≡ image_bytes (record { clock = old.clock; window = old.window; floor = old.floor; next = old.next; frames = frames; rows = parts; spans = old.spans; audit = audit })

-- The objects of an old image were copied into a new table of this many frames, or of as many as are needed, and this was written of it.
pub record IsLaid (old : EarlierFields) (audit : List AuditPart) (frames : ℕ) (new : List ℕ) : Type 0 where
  pub t : Table
  pub laters : List Row
  pub copied : CopyRows old.version (used_in old.frames) old.rows laters (fresh_log (frames_needed frames (blocks_of_rows old.version (used_in old.frames) old.rows))) (log_of t)
  pub filled : FillsFrames (blocks_of_rows old.version (used_in old.frames) old.rows) (frames_needed frames (blocks_of_rows old.version (used_in old.frames) old.rows)) t
  pub count : IsFrameCount (length t.seat.frames)
  pub used : HoldsUsedBlocks t
  pub parts : AreBytesOf old audit t laters new

-- Parts of an image that keep their rules, and what was read of them.
pub record IsSource (mark : ImageMark) (was : Image) (old : EarlierFields) : Type 0 where
  pub is : IsImage was
  pub rules : KeepsRulesBy mark was
  pub of : IsEarlierOf (records_of mark) was old

-- These are audit rows that an image with an old one's numbers may have.
pub record MayHaveAudit (old : EarlierFields) (audit : List AuditPart) : Type 0 where
  pub are : AllByRecursion IsAuditPart audit
  pub count : length audit < 2 ^ 64
  pub rows : List AuditRow
  pub spelled : audit ≡ map audit_part rows
  pub kept : AreAuditRows old.floor old.clock old.next rows
