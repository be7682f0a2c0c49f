-- The inode before a row's entries, with a checkpoint and without one.
use Rattle.std.proofs.Common.{◌≡◌, List, Option, Some, None, sym, ap, ◌∙◌}
use Rattle.std.specs.Prelude.{IfSome}
use Rattle.s4_types.specs.Pointer.{Place}
use Rattle.block_log.specs.Log.{Stored}
use Rattle.codec.specs.Fields.{◌>>=◌}
use Rattle.codec.specs.declared.inodes.Inode.{Inode}
use Rattle.codec.specs.Entry.{EntryFields}
use Rattle.codec.specs.Checkpoint.{CheckpointFields}
use Rattle.undo_redo.specs.Runs.{undone_all, entries_by, blank}
use Rattle.checkpoint.specs.Held.{checkpoint_held}
use Rattle.time_read.specs.Rows.{inode_before}
use Rattle.image_objects.specs.declared.rows.ImageRow.{ImageRow}
use Rattle.image_objects.specs.Inodes.{first_before}

pub first_with : (used : Place → Option Stored) (row : ImageRow) (entries : List EntryFields) (p : Place) (c : CheckpointFields) (first : Inode) → row.checkpoint ≡ Some p → checkpoint_held used row.object p ≡ Some c
    → first ≡ undone_all (entries_by row.checkpoint_moment entries) c.inode → first ≡ first_before used row entries
unfolding inode_before
first_with used row entries p c first names here is =
    is ∙ sym (ap (λ (o : Option CheckpointFields). inode_before row.created row.checkpoint_moment entries o) (ap (λ (q : Option Place). q >>= checkpoint_held used row.object) names ∙ here))

pub first_without : (used : Place → Option Stored) (row : ImageRow) (entries : List EntryFields) (found : Option Inode) → row.checkpoint ≡ None → IfSome found (λ first. first ≡ blank row.created) → IfSome found (λ first. first ≡ first_before used row entries)
unfolding inode_before
first_without used row entries None names is = tt
first_without used row entries (Some first) names is =
    is ∙ sym (ap (λ (o : Option CheckpointFields). inode_before row.created row.checkpoint_moment entries o) (ap (λ (q : Option Place). q >>= checkpoint_held used row.object) names))
