-- The moment up to which a row tells, when it grows and when blocks of others change.
use Rattle.std.proofs.Common.{◌≡◌, ℕ, ◌≤◌, true, List, Option, sym, subst, ◌∙◌, arith}
use Rattle.s4_types.specs.Pointer.{Place}
use Rattle.block_log.specs.Log.{Stored, of_kind}
use Rattle.block_log.specs.declared.kinds.BlockKind.TheVariants.{Journal}
use Rattle.codec.specs.declared.inodes.Inode.{Inode}
use Rattle.codec.specs.Entry.{EntryFields}
use Rattle.undo_redo.specs.Runs.{AllBy, Run, moments_ascend_from, entries_by, inode_after}
use Rattle.undo_redo.specs.Groups.{grouped}
use Rattle.object_map.specs.declared.map.Row.{Row}
use Rattle.undo_redo.proofs.RunLaws.{all_by_later}
use Rattle.time_read.specs.Rows.{entries_of, first_of, inode_of, IsRow}
use Rattle.time_read.proofs.Staying.{same_entries}
use Rattle.row_changes.specs.Recent.{IsBy}

pub by_later : (held : Place → Option Stored) (o : ℕ) (row : Row) (a b : ℕ) → a ≤ b → IsBy held o row a → IsBy held o row b
by_later held o row a b le h = record {
  entries = all_by_later a b (entries_of held o row) le h.entries;
  checkpoint = omega (arith, h.checkpoint, le);
}

pub same_by : (held later : Place → Option Stored) (o : ℕ) (row : Row) (t : ℕ) → of_kind Journal o later ≡ of_kind Journal o held → IsBy held o row t → IsBy later o row t
same_by held later o row t same h = record {
  entries = subst (λ (es : List EntryFields). AllBy t es) (sym (same_entries held later o row same)) h.entries;
  checkpoint = h.checkpoint;
}

-- ---- the inode at a moment

pub last_stays :
    ((i : Inode) (entries : List EntryFields) (m t : ℕ) → AllBy m entries → m ≤ t → inode_after i entries t ≡ inode_after i entries m) →
    (held : Place → Option Stored) (o : ℕ) (row : Row) (a t : ℕ) → IsBy held o row a → a ≤ t → inode_of held o row t ≡ inode_of held o row a
unfolding inode_of
last_stays since held o row a t by le = since (first_of held o row) (entries_of held o row) a t by.entries le

pub kept_making :
    ((i j : Inode) (entries : List EntryFields) → Run i entries j → i.created ≡ j.created) →
    ((entries : List EntryFields) → grouped entries ≡ true → moments_ascend_from 0 entries ≡ true) →
    ((i k : Inode) (entries : List EntryFields) (low t : ℕ) → moments_ascend_from low entries ≡ true → Run i entries k → Run i (entries_by t entries) (inode_after i entries t)) →
    (held : Place → Option Stored) (o : ℕ) (row : Row) (t : ℕ) → IsRow held o row → (inode_of held o row t).created ≡ row.created
unfolding inode_of
kept_making making ascend front held o row t r =
    let first : Inode = first_of held o row in
    let entries : List EntryFields = entries_of held o row in
    sym (making first (inode_after first entries t) (entries_by t entries) (front first r.last entries 0 t (ascend entries r.groups) r.run)) ∙ r.created
