-- The rows of an image of the present version, read as those of the second one.
use Rattle.std.proofs.Common.{◌≡◌, ℕ, List, [], ◌∷◌, Option, sym, subst}
use Rattle.std.specs.List.{AllByRecursion}
use Rattle.s4_types.specs.Pointer.{Place}
use Rattle.block_log.specs.Log.{Stored}
use Rattle.codec.specs.Entry.{EntryFields}
use Rattle.codec.specs.declared.versions.ImageVersion.TheVariants.{Second}
use Rattle.image_parts.specs.Frames.{FrameFields}
use Rattle.image_parts.specs.Image.{Image}
use Rattle.image_objects.specs.declared.rows.ImageRow.{ImageRow}
use Rattle.image_objects.specs.Chains.{entries_used}
use Rattle.image_objects.specs.Objects.{ObjectStands}
use Rattle.image_objects.specs.Moments.{ChainsShareNoMoment}
use Rattle.image_objects.specs.Rows.{RowsStand}
use Rattle.image_objects.specs.Versions.{ObjectStandsBy, RowsStandBy, entries_used_by}
use Rattle.image_objects.proofs.Seconds.{object_again, same_entries}
use Rattle.segment_table.specs.Table.{Table}
use Rattle.segment_table.specs.Used.{used_at}
use Rattle.verifier.specs.Rows.{ChainsStand}
use Rattle.verifier.specs.Tables.{IsTableOf}
use Rattle.earlier_images.specs.declared.frames.EarlierFrame.{EarlierFrame}
use Rattle.earlier_images.specs.Used.{AreFramesOf, used_in}

objects_again : (used : Place → Option Stored) (rows : List ImageRow) (clock : ℕ) → AllByRecursion (λ row. ObjectStands used row clock) rows → AllByRecursion (λ row. ObjectStandsBy Second used row clock) rows
objects_again used [] clock stand = tt
objects_again used (row ∷ rows) clock stand = (object_again used row clock stand.0, objects_again used rows clock stand.1)

rows_again : (used : Place → Option Stored) (rows : List ImageRow) (clock : ℕ) → RowsStand used rows clock → RowsStandBy Second used rows clock
rows_again used rows clock stand =
    let same : entries_used_by Second used ≡ entries_used used = λ i row. same_entries used row i in
    record {
      objects = objects_again used rows clock stand.objects;
      apart = subst (λ (chain : ImageRow → List EntryFields). ChainsShareNoMoment chain rows) (sym same) stand.apart;
    }

-- a table names what the frames name
abbrev pub NamesTheSame : Type 0
NamesTheSame = (parts : List FrameFields) (frames : List EarlierFrame) (t : Table) (p : Place) → AreFramesOf parts frames → IsTableOf parts t → used_in frames p ≡ used_at t p

-- So the rows of parts whose chains are in order are there, over the frames of these.
pub chains_again : NamesTheSame → (parts : Image) (frames : List EarlierFrame) → AreFramesOf parts.frames frames → (chains : ChainsStand parts) → RowsStandBy Second (used_in frames) chains.rows parts.clock
chains_again names parts frames are chains =
    let same : used_in frames ≡ used_at chains.table = λ i p. names parts.frames frames chains.table p are chains.frames i in
    subst (λ (used : Place → Option Stored). RowsStandBy Second used chains.rows parts.clock) (sym same) (rows_again (used_at chains.table) chains.rows parts.clock chains.stand)
