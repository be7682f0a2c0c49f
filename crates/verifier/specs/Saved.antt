-- The parts of an image that a drive is saved as.
use Rattle.std.specs.Prelude.{◌≡◌, ◌≤◌, ℕ, List, ◌++◌, map, length}
use Rattle.std.specs.List.{flat_map, AllByRecursion}
use Rattle.sha2.specs.Sha256.{sha256}
use Rattle.s4_types.specs.declared.spans.Span.{Span}
use Rattle.s4_types.specs.declared.limits.TheConstants.{RUNS_IN_ALL}
use Rattle.object_map.specs.declared.map.Row.{Row}
use Rattle.object_map.specs.Rows.{row_of}
use Rattle.image_parts.specs.Frames.{FrameFields, IsFrame, KeepFrameRules, frame_bytes}
use Rattle.image_parts.specs.Image.{Image}
use Rattle.image_objects.specs.Saved.{ObjectsAscend, saved_rows}
use Rattle.segment_table.specs.Table.{Table}
use Rattle.segment_word.specs.AcceptViews.{with_moment}
use Rattle.window.specs.Runs.{Ascend, AllBeginFrom, AllEndBefore, AreFewInEachList}
use Rattle.window.specs.Timeline.{CoverAlike}
use Rattle.s4_model.specs.Sound.{IsOfGiven}
use Rattle.s4_model.specs.State.{State}
use Rattle.s4_model.specs.Audit.{audit_of}
use Rattle.s4_model.specs.Visible.{spans_of}
use Rattle.drive.specs.Fields.{DriveFields, state_in}
use Rattle.verifier.specs.Tables.{IsTableOf}
use Rattle.verifier.specs.Rows.{SpellRows}
use Rattle.verifier.specs.Audit.{audit_part}
use Rattle.verifier.specs.Grammar.{SpellsDrive}

-- Bytes are these with the frames of a table after them, as an image has them.
pub record AddsFrames (t : Table) (before after : List ℕ) : Type 0 where
  pub frames : List FrameFields
  pub is : AllByRecursion IsFrame frames
  pub rules : KeepFrameRules frames
  pub table : IsTableOf frames t
  pub bytes : after ≡ before ++ flat_map frame_bytes frames

-- An image is what a drive is saved as: it has the drive's clock, window, floor and next number; its table is the drive's; its rows
-- are the drive's, by ascending objects; from the floor on its spans hide what the drive's do; and it has
-- the audit.
pub record IsSavedOf (d : DriveFields) (image : Image) : Type 0 where
  pub clock : image.clock ≡ (state_in d).clock
  pub window : image.window ≡ (state_in d).window
  pub floor : image.floor ≡ (state_in d).floor
  pub next : image.next ≡ (state_in d).next
  pub frames : IsTableOf image.frames d.store.table
  pub rows : List (ℕ × Row)
  pub ascending : ObjectsAscend 1 rows
  pub listed : (o : ℕ) → row_of rows o ≡ row_of d.store.rows o
  pub spelled : SpellRows image.rows (saved_rows rows)
  pub spans : CoverAlike (state_in d).floor image.spans (spans_of (state_in d))
  pub audit : image.audit ≡ map audit_part (audit_of (state_in d))

-- the bytes are an image of the drive: they encode one, and it is what the drive is saved as
pub record SpellsSaved (d : DriveFields) (bytes : List ℕ) : Type 0 where
  pub image : Image
  pub spelled : SpellsDrive bytes image
  pub saved : IsSavedOf d image

-- the bytes of the image whose front these are: they and their SHA-256
abbrev pub with_digest : List ℕ → List ℕ
with_digest front = front ++ sha256 front

-- a drive once it has seen a moment, and nothing else has come to it
abbrev pub as_seen : DriveFields → ℕ → DriveFields
as_seen d moment = record d { ledger = with_moment d.ledger moment }

-- Spans are those of a state, as an image has them: from its floor on they hide what its own do.
pub record AreSpansOf (s : State) (spans : List Span) : Type 0 where
  pub alike : CoverAlike s.floor spans (spans_of s)
  pub ordered : Ascend spans
  pub from_floor : AllBeginFrom s.floor spans
  pub past : AllEndBefore s.clock spans
  pub given : AllByRecursion (IsOfGiven s.next) spans
  pub few : length spans ≤ RUNS_IN_ALL
  pub few_in_each_list : AreFewInEachList spans
