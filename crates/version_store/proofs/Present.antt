-- The present of an object: from the last change on nothing changes, and a change begins with it.
use Rattle.std.proofs.Common.{◌≡◌, ℕ, ◌≤◌, ◌==◌, nat_le, if◌then◌else◌, true, false, ◌↔◌, List, Option, Some, None, refl, sym, ap, subst, ◌∙◌, inl, inr, arith}
use Rattle.std.proofs.lemmas.Bool.{cases_Bool, cond-true, cond-false, eqb-true, le-leb}
use Rattle.std.proofs.lemmas.Option.{none-some, same_Some}
use Rattle.s4_types.specs.Pointer.{Place}
use Rattle.block_log.specs.Log.{Log, Stored}
use Rattle.codec.specs.declared.inodes.Inode.{Inode}
use Rattle.undo_redo.specs.Runs.{blank}
use Rattle.object_map.specs.declared.map.Row.{Row}
use Rattle.object_map.specs.Rows.{row_of, with_row, fresh_row}
use Rattle.time_read.specs.Rows.{inode_of}
use Rattle.s4_model.specs.Refusals.{is_absent}
use Rattle.s4_types.specs.declared.versions.Version.{Version}
use Rattle.s4_types.specs.declared.versions.Version.TheVariants.{Absent, Live}
use Rattle.inode.specs.Contents.{contents_of, bytes_of, meaning}
use Rattle.inode.specs.Tidiness.{Tidy, PointersHeld}
use Rattle.inode.specs.Growth.{GrowsBy}
use Rattle.journal_chain.specs.Chain.{OnlyJournalChanged}
use Rattle.version_store.specs.Store.{StoreFields, IsStore, IsObject}
use Rattle.version_store.specs.Versions.{inode_by, inode_in, version_by, version_in}
use Rattle.version_store.specs.Costs.{row_or_fresh, subject_inode, room}
use Rattle.version_store.specs.Checkpointing.{last_entry, is_behind}
use Rattle.checkpoint.specs.Held.{checkpoint_blocks}
use Rattle.version_store.specs.private.CheckpointSteps.{CanCheckpoint}
use Rattle.object_map.specs.Objects.{with_value}
use Rattle.version_store.specs.private.Below.{RowInodeStays, LastInodeStays, FreshInode, BlankCount, BlankHoles, GroupsAscend}
use Rattle.version_store.proofs.Frames.{growth_stays, journal_stays, inode_in_stays}
use Rattle.version_store.specs.Taking.{IsThere}
use Rattle.version_store.proofs.Steps.{blank_tidy, blank_means, row_here, row_beside}
use Rattle.version_store.proofs.Subjects.{alive_by}
use Rattle.version_store.proofs.Kind.{blank_subject}
use Rattle.version_store.proofs.CheckpointSteps.{covers}
use Rattle.version_store.proofs.Changed.{inode_by_latest}

inode_by_subject : (held : Place → Option Stored) (o m latest : ℕ) (row : Option Row) (i : Inode) → inode_by held o latest row ≡ Some i → inode_of held o (row_or_fresh m row) latest ≡ i
inode_by_subject held o m latest None i e = absurd (none-some i e)
inode_by_subject held o m latest (Some row) i e = same_Some (inode_of held o row latest) i e

pub begins : FreshInode → (s : StoreFields) (o m : ℕ) → ((i : Inode) → inode_in s o s.latest ≡ Some i → subject_inode s o m ≡ i) × (row_of s.rows o ≡ None → subject_inode s o m ≡ blank m)
begins fresh s o m = (λ i e. inode_by_subject s.log.held o m s.latest (row_of s.rows o) i e, λ none. blank_subject fresh s o m none)

read_by : (held : Place → Option Stored) (o t latest : ℕ) (row : Option Row) (i : Inode) → ((r : Row) → row ≡ Some r → IsObject held o r latest) → inode_by held o t row ≡ Some i → Tidy (contents_of held) i × PointersHeld held o i
read_by held o t latest None i objects e = absurd (none-some i e)
read_by held o t latest (Some row) i objects e =
    let same : inode_of held o row t ≡ i = same_Some (inode_of held o row t) i e in
    let object = objects row refl in
    (subst (Tidy (contents_of held)) same (object.tidy t), subst (PointersHeld held o) same (object.pointers t))

-- an inode that an object has at a moment can be read
pub can_read : (s : StoreFields) (o t : ℕ) (i : Inode) → IsStore s → inode_in s o t ≡ Some i → Tidy (contents_of s.log.held) i × PointersHeld s.log.held o i
can_read s o t i store e = read_by s.log.held o t s.latest (row_of s.rows o) i (store.objects o) e

tidy_by : FreshInode → BlankCount → BlankHoles → (held : Place → Option Stored) (o m latest : ℕ) (row : Option Row) → ((r : Row) → row ≡ Some r → IsObject held o r latest) → Tidy (contents_of held) (inode_of held o (row_or_fresh m row) latest)
tidy_by fresh count holes held o m latest None objects = subst (Tidy (contents_of held)) (sym (fresh held o m latest)) (blank_tidy count holes (contents_of held) m)
tidy_by fresh count holes held o m latest (Some row) objects = (objects row refl).tidy latest

-- the inode that a change begins with is tidy: the present one, or the blank one
pub begins_tidy : FreshInode → BlankCount → BlankHoles → (s : StoreFields) (o m : ℕ) (i : Inode) → IsStore s → i ≡ subject_inode s o m → Tidy (contents_of s.log.held) i
begins_tidy fresh count holes s o m i store is = subst (Tidy (contents_of s.log.held)) (sym is) (tidy_by fresh count holes s.log.held o m s.latest (row_of s.rows o) (store.objects o))

version_by_subject : FreshInode → (held : Place → Option Stored) (o m latest : ℕ) (row : Option Row) → meaning (contents_of held) (inode_of held o (row_or_fresh m row) latest) ≡ version_by held (inode_by held o latest row)
version_by_subject fresh held o m latest None = ap (meaning (contents_of held)) (fresh held o m latest) ∙ blank_means (contents_of held) m
version_by_subject fresh held o m latest (Some row) = refl

pub subject_version : FreshInode → (s : StoreFields) (o m : ℕ) → meaning (contents_of s.log.held) (subject_inode s o m) ≡ version_in s o s.latest
subject_version fresh s o m = version_by_subject fresh s.log.held o m s.latest (row_of s.rows o)

absent_by : (contents : Place → List ℕ) (i : Inode) → (is_absent (meaning contents i) ≡ false) ↔ (i.alive ≡ true)
absent_by contents i = (alive_by contents i, λ alive. ap is_absent (cond-true i.alive (Live (bytes_of contents i) i.attribute i.created i.changed) Absent alive))

pub subject_there : FreshInode → (s : StoreFields) (o m : ℕ) → IsThere s o ↔ ((subject_inode s o m).alive ≡ true)
subject_there fresh s o m =
    subst (λ (v : Version). (is_absent v ≡ false) ↔ ((subject_inode s o m).alive ≡ true)) (subject_version fresh s o m) (absent_by (contents_of s.log.held) (subject_inode s o m))

-- ---- what is kept beside the rows

-- of each object its present inode is kept
abbrev pub Keeps : (ℕ → Option Inode) → StoreFields → Type 0
Keeps kept s = (q : ℕ) → kept q ≡ inode_in s q s.latest

-- data that is appended leaves the inodes
pub grown_keeps : RowInodeStays → (s : StoreFields) (log : Log) (object : ℕ) (blocks : List (List ℕ)) (kept : ℕ → Option Inode) → GrowsBy object blocks s.log log → Keeps kept s → Keeps kept (record s { log = log })
grown_keeps same s log object blocks kept grows keeps q =
    keeps q ∙ sym (inode_in_stays same s (record s { log = log }) q s.latest refl (growth_stays object blocks s.log log q grows))

-- a row that was added begins with the inode that was
pub added_keeps : FreshInode → (s : StoreFields) (rows : List (ℕ × Row)) (o m : ℕ) (first : Inode) (kept after : ℕ → Option Inode) → first ≡ blank m
    → ((q : ℕ) → row_of rows q ≡ with_row (row_of s.rows) o (fresh_row m) q) → ((q : ℕ) → after q ≡ with_value kept o first q) → Keeps kept s → Keeps after (record s { rows = rows })
added_keeps fresh s rows o m first kept after is put kept_put keeps q = elim (cases_Bool (o == q)) [
  | inl here ↦
      kept_put q ∙ cond-true (o == q) (Some first) (kept q) here
      ∙ ap (λ (i : Inode). Some i) (is ∙ sym (fresh s.log.held q m s.latest))
      ∙ sym (ap (inode_by s.log.held q s.latest) (put q ∙ cond-true (o == q) (Some (fresh_row m)) (row_of s.rows q) here))
  | inr other ↦
      kept_put q ∙ cond-false (o == q) (Some first) (kept q) other
      ∙ keeps q
      ∙ sym (ap (inode_by s.log.held q s.latest) (put q ∙ row_beside (row_of s.rows) o q (fresh_row m) other))
]

-- an object that turns to its next inode has that one from then on, and no other object has another
pub turned_keeps : RowInodeStays → LastInodeStays → (s later : StoreFields) (o m stamp : ℕ) (j : Inode) (row next : Row) (kept after : ℕ → Option Inode) → ((q : ℕ) (r : Row) → row_of s.rows q ≡ Some r → IsObject s.log.held q r s.latest) → s.latest ≤ m
    → inode_of later.log.held o next m ≡ (if nat_le m m then j else inode_of s.log.held o row m) → OnlyJournalChanged o s.log.held later.log.held
    → ((q : ℕ) → row_of later.rows q ≡ with_row (row_of s.rows) o (record next { stamp = stamp }) q) → ((q : ℕ) → after q ≡ with_value kept o j q)
    → later.latest ≡ m → Keeps kept s → Keeps after later
unfolding inode_of
turned_keeps same last s later o m stamp j row next kept after objects le inode only put kept_put latest keeps q = elim (cases_Bool (o == q)) [
  | inl here ↦
      let is : o ≡ q = eqb-true o q here in
      let present : inode_in later o m ≡ Some j =
      ap (inode_by later.log.held o m) (put o ∙ row_here (row_of s.rows) o (record next { stamp = stamp }))
      ∙ ap (λ (i : Inode). Some i) (inode ∙ cond-true (nat_le m m) j (inode_of s.log.held o row m) (le-leb m m (omega arith))) in
      kept_put q ∙ cond-true (o == q) (Some j) (kept q) here
      ∙ sym (ap (λ (t : ℕ). inode_in later q t) latest ∙ ap (λ (k : ℕ). inode_in later k m) (sym is) ∙ present)
  | inr other ↦
      let there : inode_in later q m ≡ inode_in s q m = inode_in_stays same s later q m (put q ∙ row_beside (row_of s.rows) o q (record next { stamp = stamp }) other) (journal_stays o q s.log.held later.log.held only other) in
      kept_put q ∙ cond-false (o == q) (Some j) (kept q) other
      ∙ keeps q
      ∙ sym (ap (λ (t : ℕ). inode_in later q t) latest ∙ there ∙ inode_by_latest last s.log.held q s.latest m (row_of s.rows q) (objects q) le)
]

-- ---- the inode of a checkpoint

-- the present inode is that of the last entry, so it can be written as the checkpoint where one has to be
pub at_last : GroupsAscend → LastInodeStays → (s : StoreFields) (o : ℕ) (row : Row) (i : Inode) (m space : ℕ) → IsStore s → row_of s.rows o ≡ Some row → m ≡ last_entry s.log.held o row → is_behind s.log.held o row ≡ true
    → space ≡ room s → checkpoint_blocks i ≤ space → Some i ≡ inode_in s o s.latest → CanCheckpoint s o row i m
at_last ascend last s o row i m space store there moment behind room_is some is =
    let covered = covers ascend s o row m store there moment behind in
    record {
      store = store;
      there = there;
      moment = moment;
      behind = behind;
      inode = same_Some i (inode_of s.log.held o row s.latest) (is ∙ ap (inode_by s.log.held o s.latest) there) ∙ last s.log.held o row m s.latest covered.by covered.upto;
      room = omega (arith, some, room_is);
    }
