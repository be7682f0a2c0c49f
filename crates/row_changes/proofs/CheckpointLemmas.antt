-- What a checkpoint that is written anew makes of an object's row.
use Rattle.std.proofs.Common.{◌≡◌, ℕ, List, length, Option, Some, MatchOption, refl, sym, ap, subst, ◌∙◌, arith}
use Rattle.std.specs.Prelude.{option_map}
use Rattle.s4_types.specs.Pointer.{Place}
use Rattle.block_log.specs.Log.{Stored, of_kind}
use Rattle.block_log.specs.declared.kinds.BlockKind.TheVariants.{Journal}
use Rattle.codec.specs.Fields.{◌>>=◌}
use Rattle.codec.specs.declared.inodes.Inode.{Inode}
use Rattle.codec.specs.Entry.{EntryFields}
use Rattle.codec.specs.Checkpoint.{CheckpointFields}
use Rattle.undo_redo.specs.Runs.{Run, AllBy, entries_by, inode_after, redone_all, undone_all}
use Rattle.undo_redo.specs.Groups.{grouped}
use Rattle.checkpoint.specs.Held.{checkpoint_held, checkpoint_places, checkpoint_blocks, DropsCheckpoint}
use Rattle.object_map.specs.declared.map.Row.{Row}
use Rattle.object_map.specs.declared.sides.Side.{Side}
use Rattle.undo_redo.proofs.RunLaws.{by_all}
use Rattle.journal_chain.specs.Chain.{BlockView, IsChain, Holds}
use Rattle.time_read.specs.Rows.{chain_of, checkpoint_of, entries_of, inode_before, first_of, inode_of, IsRow, IsSide}
use Rattle.time_read.proofs.Staying.{same_entries}
use Rattle.row_changes.specs.Moving.{kept_blocks, inode_kept}
use Rattle.row_changes.specs.Recent.{IsBy}
use Rattle.row_changes.proofs.Places.{Put, put_journal, told_on}
use Rattle.row_changes.proofs.Sides.{all_mapped}
use Rattle.row_changes.proofs.SetAside.{IsKept, Keeps}

-- ---- the new one

-- the row with another checkpoint, and other older ones
abbrev pub with_checkpoint : Row → Place → ℕ → List Side → Row
with_checkpoint row p m kept = record row { checkpoint = Some p; checkpoint_moment = m; sides = kept }

pub record Laws : Type 0 where
  pub end : (i j : Inode) (entries : List EntryFields) → Run i entries j → j ≡ redone_all entries i
  pub beginning : (i j : Inode) (entries : List EntryFields) → Run i entries j → i ≡ undone_all entries j
  pub done : (i : Inode) (entries : List EntryFields) (t : ℕ) → AllBy t entries → inode_after i entries t ≡ redone_all entries i

-- The inode that is current at a moment is as a checkpoint at a place; these older ones are kept, and no block of another
-- checkpoint of the object is held; its journal is as it was.
pub record Written (held later : Place → Option Stored) (o : ℕ) (row : Row) (p : Place) (i : Inode) (m : ℕ) (kept : List Side) : Type 0 where
  pub stands : IsRow held o row
  pub latest : IsBy held o row m
  pub present : i ≡ inode_of held o row m
  pub told : checkpoint_held later o p ≡ Some (record { object = o; moment = m; inode = i })
  pub journal : of_kind Journal o later ≡ of_kind Journal o held
  pub keeps : Keeps held later o row p m kept

-- the checkpoint was put, and then an older one was dropped
pub written : (log between after : Place → Option Stored) (o : ℕ) (row : Row) (p : Place) (i : Inode) (m : ℕ) (older : Option Place) (kept : List Side) →
    IsRow log o row → IsBy log o row m → i ≡ inode_of log o row m →
    Put log between between o p older → DropsCheckpoint between o older after → Keeps log after o row p m kept → checkpoint_held between o p ≡ Some (record { object = o; moment = m; inode = i }) →
    Written log after o row p i m kept
written log between after o row p i m older kept r latest present s d keeps told = record {
  stands = r;
  latest = latest;
  present = present;
  told = told_on log between between after o p older (record { object = o; moment = m; inode = i }) s d told;
  journal = d.others Journal o refl ∙ put_journal log between o p s.put;
  keeps = keeps;
}

-- from the last inode of a run, all entries undone lead to the first
undone : (laws : Laws) (first last i : Inode) (entries : List EntryFields) (m : ℕ) → Run first entries last → AllBy m entries → i ≡ inode_after first entries m → undone_all (entries_by m entries) i ≡ first
undone laws first last i entries m run by present =
    let is : i ≡ last = present ∙ laws.done first entries m by ∙ sym (laws.end first last entries run) in
    ap (λ es. undone_all es i) (by_all m entries by) ∙ ap (undone_all entries) is ∙ sym (laws.beginning first last entries run)

pub told_before : (created t : ℕ) (entries : List EntryFields) (c : CheckpointFields) → inode_before created t entries (Some c) ≡ undone_all (entries_by t entries) c.inode
unfolding inode_before
told_before created t entries c = refl

pub written_first : (held later : Place → Option Stored) (o : ℕ) (row : Row) (p : Place) (i : Inode) (m : ℕ) (kept : List Side) → Laws → Written held later o row p i m kept → first_of later o (with_checkpoint row p m kept) ≡ first_of held o row
unfolding inode_of
written_first held later o row p i m kept laws w =
    let c : CheckpointFields = record { object = o; moment = m; inode = i } in
    ap (λ (es : List EntryFields). inode_before row.created m es (checkpoint_held later o p)) (same_entries held later o row w.journal)
    ∙ ap (λ (found : Option CheckpointFields). inode_before row.created m (entries_of held o row) found) w.told
    ∙ told_before row.created m (entries_of held o row) c
    ∙ undone laws (first_of held o row) w.stands.last i (entries_of held o row) m w.stands.run w.latest.entries w.present

pub written_inode : (held later : Place → Option Stored) (o : ℕ) (row : Row) (p : Place) (i : Inode) (m t : ℕ) (kept : List Side) → Laws → Written held later o row p i m kept → inode_of later o (with_checkpoint row p m kept) t ≡ inode_of held o row t
unfolding inode_of
written_inode held later o row p i m t kept laws w =
    ap (λ (es : List EntryFields). inode_after (first_of later o (with_checkpoint row p m kept)) es t) (same_entries held later o row w.journal)
    ∙ ap (λ (k : Inode). inode_after k (entries_of held o row) t) (written_first held later o row p i m kept laws w)

pub written_by : (held later : Place → Option Stored) (o : ℕ) (row : Row) (p : Place) (i : Inode) (m : ℕ) (kept : List Side) → Written held later o row p i m kept → IsBy later o (with_checkpoint row p m kept) m
written_by held later o row p i m kept w = record {
  entries = subst (λ (es : List EntryFields). AllBy m es) (sym (same_entries held later o row w.journal)) w.latest.entries;
  checkpoint = omega arith;
}

pub written_row : (held later : Place → Option Stored) (o : ℕ) (row : Row) (p : Place) (i : Inode) (m : ℕ) (kept : List Side) → Laws → Written held later o row p i m kept → IsRow later o (with_checkpoint row p m kept)
written_row held later o row p i m kept laws w =
    let next : Row = with_checkpoint row p m kept in
    let entries : entries_of later o next ≡ entries_of held o row = same_entries held later o row w.journal in
    let first : first_of later o next ≡ first_of held o row = written_first held later o row p i m kept laws w in
    let run : Run (first_of later o next) (entries_of held o row) w.stands.last = subst (λ (k : Inode). Run k (entries_of held o row) w.stands.last) (sym first) w.stands.run in
    let chain : Holds later (chain_of o next) (entries_of held o row) = subst (λ (v : BlockView). IsChain v (chain_of o row) (entries_of held o row)) (sym w.journal) w.stands.chain in
    record {
      object = w.stands.object;
      chain = subst (λ (es : List EntryFields). Holds later (chain_of o next) es) (sym entries) chain;
      last = w.stands.last;
      run = subst (λ (es : List EntryFields). Run (first_of later o next) es w.stands.last) (sym entries) run;
      groups = ap grouped entries ∙ w.stands.groups;
      checkpoint = w.told ∙ ap (λ (k : Inode). Some (record { object = o; moment = m; inode = k })) (w.present ∙ sym (written_inode held later o row p i m m kept laws w));
      sides = all_mapped (IsKept held later o row m) (IsSide later o next)
          (λ side is. record { told = is.0 ∙ ap (λ (k : Inode). Some (record { object = o; moment = side.moment; inode = k })) (sym (written_inode held later o row p i m side.moment kept laws w)); older = is.1 }) kept w.keeps.sides;
      ascending = w.keeps.ascending;
      only = w.keeps.only;
      created = ap (λ (k : Inode). k.created) first ∙ w.stands.created;
    }

-- ---- the one that stands

-- it is in as many blocks as its inode takes
pub kept_is : ((held : Place → Option Stored) (o : ℕ) (p : Place) (c : CheckpointFields) → checkpoint_held held o p ≡ Some c → length (checkpoint_places held o p) ≡ checkpoint_blocks c.inode)
    → (held : Place → Option Stored) (o : ℕ) (row : Row) (p : Place) (n : ℕ) → row.checkpoint ≡ Some p → IsRow held o row → n ≡ length (checkpoint_places held o p) → n ≡ kept_blocks (inode_kept held o row)
kept_is law held o row p n names r count =
    let c : CheckpointFields = record { object = o; moment = row.checkpoint_moment; inode = inode_of held o row row.checkpoint_moment } in
    let told : checkpoint_held held o p ≡ Some c = subst (λ (x : Option Place). MatchOption x (row.checkpoint_moment ≡ 0) (λ q. checkpoint_held held o q ≡ Some c)) names r.checkpoint in
    let found : checkpoint_of held o row ≡ Some c = ap (λ (x : Option Place). x >>= checkpoint_held held o) names ∙ told in
    count ∙ law held o p c told ∙ sym (ap (λ (x : Option CheckpointFields). kept_blocks (option_map (λ k. k.inode) x)) found)
