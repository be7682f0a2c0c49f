-- What a row tells whose checkpoint is of a moment at or after all entries, and has the inode after them.
use Rattle.std.proofs.Common.{◌≡◌, ℕ, ◌≤◌, true, List, Option, Some, Result, Ok, Err, IfOk, sym, ap, subst, ◌∙◌, arith}
use Rattle.s4_types.specs.Pointer.{Place}
use Rattle.s4_types.specs.declared.limits.TheConstants.{CHAIN_ENTRY_BYTES}
use Rattle.block_log.specs.Log.{Stored}
use Rattle.codec.specs.declared.inodes.Inode.{Inode}
use Rattle.codec.specs.Entry.{EntryFields, entries_length}
use Rattle.codec.specs.Checkpoint.{checkpoint_rules}
use Rattle.undo_redo.specs.Runs.{Run, AllBy, inode_after, redone_all, undone_all}
use Rattle.undo_redo.specs.Groups.{grouped}
use Rattle.object_map.specs.declared.map.Row.{Row}
use Rattle.undo_redo.proofs.RunLaws.{by_all}
use Rattle.time_read.specs.Rows.{entries_of, first_of, last_inode}
use Rattle.row_changes.specs.Recent.{IsBy}
use Rattle.row_changes.specs.Moving.{CanWrite, checkpoint_made, first_kept}
use Rattle.row_changes.proofs.CheckpointLemmas.{Laws, told_before}

-- the inode before all entries
pub first_is : (o created m : ℕ) (i : Inode) (entries : List EntryFields) → AllBy m entries → first_kept o created m (Some i) entries ≡ undone_all entries i
first_is o created m i entries by =
    told_before created m entries (checkpoint_made o m i) ∙ ap (λ (es : List EntryFields). undone_all es i) (by_all m entries by)

pub can_rewrite : (o created m : ℕ) (i : Inode) (entries : List EntryFields) → Laws → ((i j : Inode) (entries : List EntryFields) → Run i entries j → i.created ≡ j.created)
    → checkpoint_rules (checkpoint_made o m i) ≡ true → Run (undone_all entries i) entries i → grouped entries ≡ true → AllBy m entries → entries_length entries ≤ CHAIN_ENTRY_BYTES → i.created ≡ created
    → CanWrite o created m (Some i) entries
can_rewrite o created m i entries laws making rules run groups by bytes made =
    let first : first_kept o created m (Some i) entries ≡ undone_all entries i = first_is o created m i entries by in
    let end : i ≡ redone_all entries (undone_all entries i) = laws.end (undone_all entries i) i entries run in
    record {
      rules = rules;
      current = end ∙ sym (laws.done (undone_all entries i) entries m by) ∙ ap (λ (k : Inode). inode_after k entries m) (sym first);
      run = subst (λ (k : Inode). Run k entries (redone_all entries k)) (sym first) (subst (λ (k : Inode). Run (undone_all entries i) entries k) end run);
      groups = groups;
      bytes = bytes;
      created = ap (λ (k : Inode). k.created) first ∙ making (undone_all entries i) i entries run ∙ made;
    }

pub rewritten_by : (later : Place → Option Stored) (o : ℕ) (row : Row) (m : ℕ) (entries : List EntryFields) → entries_of later o row ≡ entries → row.checkpoint_moment ≡ m → AllBy m entries → IsBy later o row m
rewritten_by later o row m entries found at by = record {
  entries = subst (λ (es : List EntryFields). AllBy m es) (sym found) by;
  checkpoint = omega (arith, at);
}

pub rewritten_last : (later : Place → Option Stored) (o : ℕ) (row : Row) (i : Inode) (entries : List EntryFields) → Laws → entries_of later o row ≡ entries → first_of later o row ≡ undone_all entries i → Run (undone_all entries i) entries i
    → last_inode later o row ≡ i
rewritten_last later o row i entries laws found first run =
    ap (λ (es : List EntryFields). redone_all es (first_of later o row)) found ∙ ap (redone_all entries) first ∙ sym (laws.end (undone_all entries i) i entries run)

-- what holds of a result in two ways
pub both_ok : {T E : Type 0} (r : Result T E) (P Q : T → Type 0) → IfOk r P → IfOk r Q → IfOk r (λ x. P x × Q x)
both_ok (Ok x) P Q p q = (p, q)
both_ok (Err e) P Q p q = tt
