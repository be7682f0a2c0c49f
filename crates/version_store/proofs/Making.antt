-- What each kind of change makes of an inode.
use Rattle.std.proofs.Common.{◌≡◌, ℕ, ◌≤◌, ◌/◌, true, false, List, [], length, take, drop, Option, Some, None, refl, sym, ap, subst, ◌∙◌, arith}
use Rattle.std.proofs.lemmas.List.FromFn.{length-map-range_with_len}
use Rattle.std.proofs.lemmas.Option.{none-some}
use Rattle.s4_types.specs.Pointer.{Place}
use Rattle.s4_types.specs.declared.changes.Change.{Change}
use Rattle.s4_types.specs.declared.changes.Change.TheVariants.{Create, Delete, Write, Truncate, SetAttr}
use Rattle.s4_model.specs.Effect.{effect, object_of}
use Rattle.block_log.specs.Log.{Log, NamesAreOfData}
use Rattle.codec.specs.Checkpoint.{pointer_at}
use Rattle.codec.specs.declared.inodes.Inode.{Inode}
use Rattle.undo_redo.specs.Runs.{blank}
use Rattle.undo_redo.specs.Between.{CanLead}
use Rattle.inode.specs.Contents.{contents_of, meaning}
use Rattle.inode.specs.Tidiness.{Tidy, PointersHeld}
use Rattle.inode.specs.Touched.{touched_count, cut_count}
use Rattle.inode.specs.Changed.{Written, Truncated, listed_blocks, blocks_written, blocks_cut}
use Rattle.inode.specs.Growth.{GrowsBy, with_data}
use Rattle.inode.specs.Laws.{HeldPointersLead}
use Rattle.version_store.specs.Store.{StoreFields}
use Rattle.object_map.specs.declared.map.Row.{Row}
use Rattle.object_map.specs.Rows.{row_of, with_row, fresh_row}
use Rattle.inode.proofs.Growing.{grows-none}
use Rattle.version_store.specs.Costs.{row_or_fresh, subject_row}
use Rattle.version_store.specs.Taking.{IsThere, IsAboveAll}
use Rattle.version_store.specs.private.Turning.{CanTake}
use Rattle.version_store.specs.private.Below.{OnePlace, FreshInode, BlankCount, BlankHoles}
use Rattle.version_store.proofs.Counting.{Fresh, none_moved, written_moves, truncated_moves}
use Rattle.version_store.proofs.Handed.{IsInHand, nothing_in_hand, written_in_hand, cut_in_hand}
use Rattle.version_store.proofs.Across.{above_has_none}
use Rattle.version_store.proofs.Steps.{row_here}
use Rattle.version_store.proofs.Subjects.{IsSubject, subject_of}
use Rattle.version_store.proofs.Kind.{Makes, alive_leads, deleted_leads, created_leads, blank_subject}

-- the object of a change that is there
pub can_subject : (s : StoreFields) (change : Change) (m : ℕ) (i : Inode) → CanTake s change m i → IsThere s (object_of change) → IsSubject s (object_of change) m i
can_subject s change m i can there = subject_of s (object_of change) m i can.store there can.begins

-- the row that it begins with is the object's
pub subject_is : (s : StoreFields) (o m : ℕ) (i : Inode) (row : Row) → IsSubject s o m i → row ≡ subject_row s o m → row_of s.rows o ≡ Some row
subject_is s o m i row subject is = subject.there ∙ ap (λ (r : Row). Some r) (sym subject.subject ∙ sym is)

-- and once an object was added, the row that its creation begins with
pub subject_made : (s : StoreFields) (rows : List (ℕ × Row)) (o m : ℕ) (row : Row) → IsAboveAll s o → ((q : ℕ) → row_of rows q ≡ with_row (row_of s.rows) o (fresh_row m) q) → row ≡ subject_row s o m
    → row_of rows o ≡ Some row
subject_made s rows o m row above added is =
    added o ∙ row_here (row_of s.rows) o (fresh_row m) ∙ ap (λ (r : Row). Some r) (sym (is ∙ ap (row_or_fresh m) (above_has_none s o above)))

-- ---- the changes without data

pub deleted_makes : (s : StoreFields) (o m : ℕ) (i j : Inode) → CanTake s (Delete o) m i → IsSubject s o m i → j ≡ record i { alive = false } → meaning (contents_of s.log.held) j ≡ effect (Delete o) m (meaning (contents_of s.log.held) i) → Tidy (contents_of s.log.held) j
    → Makes s (Delete o) m i s.log j
deleted_makes s o m i j can subject is means tidy =
    let later = can.later in
    record {
      grows = grows-none o s.log;
      made = refl;
      amount = refl;
      moved = none_moved i j (λ k. ap (λ (x : Inode). pointer_at x k) is);
      attribute = ap (λ (x : Inode). x.attribute) is;
      lead = subst (λ (x : Inode). CanLead i x m) (sym is) (deleted_leads i m (omega (arith, later)) subject.alive subject.tidy.count subject.tidy.size);
      tidy = tidy;
      pointers = subst (PointersHeld s.log.held o) (sym is) subject.pointers;
      means = means;
    }

pub set_makes : (s : StoreFields) (o m : ℕ) (attribute : List ℕ) (i j : Inode) → CanTake s (SetAttr o attribute) m i → IsSubject s o m i → j ≡ record i { attribute = attribute; changed = m }
    → meaning (contents_of s.log.held) j ≡ effect (SetAttr o attribute) m (meaning (contents_of s.log.held) i) → Tidy (contents_of s.log.held) j → Makes s (SetAttr o attribute) m i s.log j
set_makes s o m attribute i j can subject is means tidy =
    let later = can.later in
    record {
      grows = grows-none o s.log;
      made = refl;
      amount = refl;
      moved = none_moved i j (λ k. ap (λ (x : Inode). pointer_at x k) is);
      attribute = ap (λ (x : Inode). x.attribute) is;
      lead = subst (λ (x : Inode). CanLead i x m) (sym is)
          (alive_leads i (record i { attribute = attribute; changed = m }) m (omega (arith, later)) subject.alive refl refl refl subject.tidy.count subject.tidy.count subject.tidy.size subject.tidy.size);
      tidy = tidy;
      pointers = subst (PointersHeld s.log.held o) (sym is) subject.pointers;
      means = means;
    }

pub created_makes : FreshInode → BlankCount → BlankHoles → (s : StoreFields) (o m : ℕ) (attribute : List ℕ) (i j : Inode) → CanTake s (Create o attribute) m i
    → j.alive ≡ true → j.size ≡ 0 → j.created ≡ m → j.changed ≡ m → j.attribute ≡ attribute → ((k : ℕ) → pointer_at j k ≡ None)
    → meaning (contents_of s.log.held) j ≡ effect (Create o attribute) m (meaning (contents_of s.log.held) i) → Tidy (contents_of s.log.held) j → Makes s (Create o attribute) m i s.log j
created_makes fresh count holes s o m attribute i j can alive size made changed attribute_is none means tidy =
    let later = can.later in
    let is : i ≡ blank m = can.begins ∙ blank_subject fresh s o m (above_has_none s o can.takes.ready) in
    record {
      grows = grows-none o s.log;
      made = refl;
      amount = refl;
      moved = none_moved i j (λ k. none k ∙ sym (ap (λ (x : Inode). pointer_at x k) is ∙ holes m k));
      attribute = attribute_is;
      lead = subst (λ (x : Inode). CanLead x j m) (sym is) (created_leads j m (omega (arith, later)) alive made changed (count m) tidy.count size);
      tidy = tidy;
      pointers = λ k p at. absurd (none-some p (sym (none k) ∙ at));
      means = means;
    }

-- ---- the changes with data

written_amount : (contents : Place → List ℕ) (i : Inode) (offset : ℕ) (bytes : List ℕ) → length (blocks_written contents i offset bytes) ≡ touched_count offset (length bytes)
unfolding listed_blocks
written_amount contents i offset bytes = length-map-range_with_len _ _ (touched_count offset (length bytes))

cut_amount : (contents : Place → List ℕ) (i : Inode) (size : ℕ) → length (blocks_cut contents i size) ≡ cut_count i size
unfolding listed_blocks
cut_amount contents i size = length-map-range_with_len _ _ (cut_count i size)

-- the places that data took were free, as many as were counted
fresh_places : (object : ℕ) (blocks : List (List ℕ)) (before after : Log) (count : ℕ) → GrowsBy object blocks before after → length blocks ≡ count → Fresh before.held before.ahead count
fresh_places object blocks before after count grows amount n p lt at = grows.fresh n p (omega (arith, lt, amount)) at

pub written_makes : OnePlace → HeldPointersLead → (s : StoreFields) (o m offset : ℕ) (bytes : List ℕ) (log : Log) (i j : Inode) → CanTake s (Write o offset bytes) m i → IsSubject s o m i
    → GrowsBy o (blocks_written (contents_of s.log.held) i offset bytes) s.log log → log ≡ with_data o (blocks_written (contents_of s.log.held) i offset bytes) s.log → Written s.log.ahead m offset (length bytes) i j
    → Tidy (contents_of log.held) j → PointersHeld log.held o j → meaning (contents_of log.held) j ≡ effect (Write o offset bytes) m (meaning (contents_of s.log.held) i) → Makes s (Write o offset bytes) m i log j
written_makes one lead_law s o m offset bytes log i j can subject grows made written tidy pointers means =
    let later = can.later in
    let amount : length (blocks_written (contents_of s.log.held) i offset bytes) ≡ touched_count offset (length bytes) = written_amount (contents_of s.log.held) i offset bytes in
    let places = grows.room in
    let enough : touched_count offset (length bytes) ≤ length s.log.ahead = omega (arith, amount, places) in
    record {
      grows = grows;
      made = made;
      amount = amount;
      moved = written_moves one s.log.held s.log.ahead m offset (length bytes) i j can.takes.fits written enough
          (fresh_places o (blocks_written (contents_of s.log.held) i offset bytes) s.log log (touched_count offset (length bytes)) grows amount) (lead_law s.log.held o i subject.pointers);
      attribute = written.attribute;
      lead = alive_leads i j m (omega (arith, later)) subject.alive written.alive written.created written.changed subject.tidy.count tidy.count subject.tidy.size tidy.size;
      tidy = tidy;
      pointers = pointers;
      means = means;
    }

pub truncated_makes : OnePlace → HeldPointersLead → (s : StoreFields) (o m size : ℕ) (log : Log) (i j : Inode) → CanTake s (Truncate o size) m i → IsSubject s o m i
    → GrowsBy o (blocks_cut (contents_of s.log.held) i size) s.log log → log ≡ with_data o (blocks_cut (contents_of s.log.held) i size) s.log → Truncated s.log.ahead m size i j
    → Tidy (contents_of log.held) j → PointersHeld log.held o j → meaning (contents_of log.held) j ≡ effect (Truncate o size) m (meaning (contents_of s.log.held) i) → Makes s (Truncate o size) m i log j
truncated_makes one lead_law s o m size log i j can subject grows made truncated tidy pointers means =
    let later = can.later in
    let amount : length (blocks_cut (contents_of s.log.held) i size) ≡ cut_count i size = cut_amount (contents_of s.log.held) i size in
    let places = grows.room in
    let enough : cut_count i size ≤ length s.log.ahead = omega (arith, amount, places) in
    record {
      grows = grows;
      made = made;
      amount = amount;
      moved = truncated_moves one s.log.held s.log.ahead m size i j can.takes.fits truncated enough
          (fresh_places o (blocks_cut (contents_of s.log.held) i size) s.log log (cut_count i size) grows amount) (lead_law s.log.held o i subject.pointers);
      attribute = truncated.attribute;
      lead = alive_leads i j m (omega (arith, later)) subject.alive truncated.alive truncated.created truncated.changed subject.tidy.count tidy.count subject.tidy.size tidy.size;
      tidy = tidy;
      pointers = pointers;
      means = means;
    }

-- ---- what is in hand then

-- a change without data
pub no_hand : (s : StoreFields) (change : Change) (m : ℕ) (i j : Inode) → CanTake s change m i → IsInHand s.log s.log j []
no_hand s change m i j can = nothing_in_hand s.log j can.store.names

pub written_hand : (s : StoreFields) (o m offset : ℕ) (bytes : List ℕ) (log : Log) (i j : Inode) (hand : List (Option Place)) → CanTake s (Write o offset bytes) m i
    → GrowsBy o (blocks_written (contents_of s.log.held) i offset bytes) s.log log → log ≡ with_data o (blocks_written (contents_of s.log.held) i offset bytes) s.log → Written s.log.ahead m offset (length bytes) i j → Tidy (contents_of log.held) j
    → hand ≡ take (touched_count offset (length bytes)) (drop (offset / 512) j.pointers) → NamesAreOfData log → IsInHand s.log log j hand
written_hand s o m offset bytes log i j hand can grows made written tidy is names =
    written_in_hand o m offset (length bytes) (blocks_written (contents_of s.log.held) i offset bytes) s.log log i j hand (written_amount (contents_of s.log.held) i offset bytes) grows.room made written tidy.count can.takes.fits is names

pub truncated_hand : (s : StoreFields) (o m size : ℕ) (log : Log) (i j : Inode) (hand : List (Option Place)) → CanTake s (Truncate o size) m i → IsSubject s o m i
    → GrowsBy o (blocks_cut (contents_of s.log.held) i size) s.log log → log ≡ with_data o (blocks_cut (contents_of s.log.held) i size) s.log → Truncated s.log.ahead m size i j → Tidy (contents_of log.held) j
    → hand ≡ take (cut_count i size) (drop (size / 512) j.pointers) → NamesAreOfData log → IsInHand s.log log j hand
truncated_hand s o m size log i j hand can subject grows made truncated tidy is names =
    cut_in_hand o m size (blocks_cut (contents_of s.log.held) i size) s.log log i j hand (cut_amount (contents_of s.log.held) i size) grows.room made truncated tidy.count can.takes.fits subject.tidy.size is names
