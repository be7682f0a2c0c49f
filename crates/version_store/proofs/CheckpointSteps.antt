-- What a checkpoint that is written leaves of a store.
use Rattle.std.proofs.Common.{cond, ◌≡◌, ℕ, suc, ◌+◌, ◌*◌, ◌-◌, ◌^◌, ◌<◌, ◌≤◌, ◌==◌, ◌&&◌, ◌||◌, leb, ltb, true, false, List, [], ◌∷◌, length, slice_index_or, Option, Some, None, IsSome, IfSome, MatchOption, is_some, refl, sym, ap, subst, ◌∙◌, inl, inr, arith}
use Rattle.std.specs.Prelude.{is_none}
use Rattle.std.proofs.lemmas.Bool.{cases_Bool, and_from, and_parts, or_left, or_right, eqb-true, ltb-true, ltb-false, leb-true, le-leb, false≢true}
use Rattle.std.proofs.lemmas.List.{append-nil}
use Rattle.s4_types.specs.Pointer.{Place}
use Rattle.s4_types.specs.declared.limits.TheConstants.{OBJECT_BYTES}
use Rattle.block_log.specs.Taken.{TakesPlaces}
use Rattle.s4_types.specs.declared.versions.Version.{Version}
use Rattle.block_log.specs.Log.{Log, Stored}
use Rattle.block_log.specs.declared.kinds.BlockKind.TheVariants.{Journal, Checkpoint, Data, Pointers}
use Rattle.codec.specs.Checkpoint.{holes_past, checkpoint_rules}
use Rattle.codec.specs.Entry.{EntryFields}
use Rattle.codec.specs.declared.inodes.Inode.{Inode}
use Rattle.undo_redo.specs.Runs.{AllBy, moments_ascend_from, last_moment}
use Rattle.checkpoint.specs.Held.{checkpoint_held, checkpoint_blocks, places_named, of_checkpoints, OnlyCheckpointChanged}
use Rattle.inode.specs.Contents.{contents_of, meaning}
use Rattle.inode.specs.Tidiness.{Tidy, PointersHeld}
use Rattle.inode.specs.Laws.{OnlyItsBlocksMatter}
use Rattle.checkpoint.proofs.OwnBlocks.{same_checkpoints}
use Rattle.object_map.specs.declared.map.Row.{Row}
use Rattle.object_map.specs.Rows.{row_of, with_row}
use Rattle.object_map.specs.Sides.{sides_after}
use Rattle.time_read.specs.Rows.{IsRow, entries_of, inode_of, checkpoint_places_of}
use Rattle.time_read.specs.Orderly.{IsOrderly}
use Rattle.time_read.proofs.Staying.{same_entries}
use Rattle.row_changes.specs.Recent.{IsBy}
use Rattle.row_changes.specs.Moved.{IsMoved, places_gone}
use Rattle.version_store.specs.Store.{HasNothing, StoreFields, IsStore, IsObject, pointers_of}
use Rattle.version_store.specs.Versions.{Stays, inode_by, inode_in, version_by, version_in}
use Rattle.version_store.specs.Checkpointing.{last_entry, is_behind, IsCheckpointed}
use Rattle.version_store.specs.private.CheckpointSteps.{CanCheckpoint, Checkpointed}
use Rattle.version_store.specs.private.Recounting.{Counts}
use Rattle.version_store.specs.private.Below.{ChangesStand, IsByLater, LastInodeStays, GroupsAscend, RowsKeepTheMaking, CheckpointsTakeBlocks}
use Rattle.version_store.proofs.Frames.{DataStays, data_there, data_agree, data_pointers}
use Rattle.version_store.proofs.Telling.{Moves, leads_later, moved_leads}
use Rattle.version_store.proofs.Changed.{Changes, own_or_other, some_keeps, some_stays, checkpoint_others, changed_inodes, changed_store, changed_versions, store_others}
use Rattle.version_store.proofs.Across.{IsAcross, changed_across}
use Rattle.version_store.proofs.Spending.{sum_stays}
use Rattle.version_store.proofs.Steps.{row_here, row_beside, stamped_row, stamped_inode}

-- ---- the last moment of a journal

pub last_moment_least : (low : ℕ) (entries : List EntryFields) → moments_ascend_from low entries ≡ true → low ≤ last_moment low entries
last_moment_least low [] ascend = omega arith
last_moment_least low (e ∷ entries) ascend =
    let parts = and_parts (leb low e.moment) (moments_ascend_from e.moment entries) ascend in
    let first : low ≤ e.moment = leb-true low e.moment parts.0 in
    let rest : e.moment ≤ last_moment e.moment entries = last_moment_least e.moment entries parts.1 in
    omega (arith, first, rest)

pub all_by_last : (low t : ℕ) (entries : List EntryFields) → moments_ascend_from low entries ≡ true → last_moment low entries ≤ t → AllBy t entries
all_by_last low t [] ascend le = tt
all_by_last low t (e ∷ entries) ascend le =
    let parts = and_parts (leb low e.moment) (moments_ascend_from e.moment entries) ascend in
    let least : e.moment ≤ last_moment e.moment entries = last_moment_least e.moment entries parts.1 in
    (le-leb e.moment t (omega (arith, least, le)), all_by_last e.moment t entries parts.1 le)

last_by : (given t : ℕ) (entries : List EntryFields) → given ≤ t → AllBy t entries → last_moment given entries ≤ t
last_by given t [] le by = le
last_by given t (e ∷ entries) le by = last_by e.moment t entries (leb-true e.moment t by.0) by.1

-- a checkpoint that isn't older than the last entry isn't older than any
covered : GroupsAscend → (held : Place → Option Stored) (o : ℕ) (row : Row) → IsRow held o row → is_behind held o row ≡ false → AllBy row.checkpoint_moment (entries_of held o row)
covered ascend held o row stands behind =
    all_by_last 0 row.checkpoint_moment (entries_of held o row) (ascend (entries_of held o row) stands.groups) (ltb-false row.checkpoint_moment (last_entry held o row) behind)

-- ---- what a checkpoint asks

first_hole : (size : ℕ) (p : Option Place) → (size ≤ 0 → p ≡ None) → (ltb 0 size || is_none p) ≡ true
first_hole size p none = elim (cases_Bool (ltb 0 size)) [
  | inl some ↦ or_left (ltb 0 size) (is_none p) some
  | inr empty ↦ or_right (ltb 0 size) (is_none p) (ap (λ (slot : Option Place). is_none slot) (none (ltb-false 0 size empty)))
]

pub holes_all : (size : ℕ) (pointers : List (Option Place)) → ((k : ℕ) → size ≤ 512 * k → slice_index_or pointers k None ≡ None) → holes_past size pointers ≡ true
unfolding holes_past
holes_all size [] holes = refl
holes_all size (p ∷ pointers) holes =
    and_from (ltb 0 size || is_none p) (holes_past (size - 512) pointers)
    (first_hole size p (λ le. holes 0 (omega (arith, le))))
    (holes_all (size - 512) pointers (λ k le. holes (suc k) (omega (arith, le))))

pub keeps_rules : (o m : ℕ) (i : Inode) → 1 ≤ o → 1 ≤ m → 1 ≤ i.created → i.size ≤ OBJECT_BYTES → holes_past i.size i.pointers ≡ true → checkpoint_rules (record { object = o; moment = m; inode = i }) ≡ true
unfolding checkpoint_rules
keeps_rules o m i object moment created size holes =
    and_from (leb 1 o) (leb 1 m && (leb 1 i.created && (leb i.size OBJECT_BYTES && holes_past i.size i.pointers))) (le-leb 1 o object)
    (and_from (leb 1 m) (leb 1 i.created && (leb i.size OBJECT_BYTES && holes_past i.size i.pointers)) (le-leb 1 m moment)
    (and_from (leb 1 i.created) (leb i.size OBJECT_BYTES && holes_past i.size i.pointers) (le-leb 1 i.created created)
    (and_from (leb i.size OBJECT_BYTES) (holes_past i.size i.pointers) (le-leb i.size OBJECT_BYTES size) holes)))

-- The moment of the last entry of an object's row covers all that the row tells, and is no later than the last change.
pub record Covers (s : StoreFields) (o : ℕ) (row : Row) (m : ℕ) : Type 0 where
  pub by : IsBy s.log.held o row m
  pub upto : m ≤ s.latest

pub covers : GroupsAscend → (s : StoreFields) (o : ℕ) (row : Row) (m : ℕ) → IsStore s → row_of s.rows o ≡ Some row → m ≡ last_entry s.log.held o row → is_behind s.log.held o row ≡ true → Covers s o row m
covers ascend s o row m store there is behind =
    let held = s.log.held in
    let object = store.objects o row there in
    let late : row.checkpoint_moment < last_entry held o row = ltb-true row.checkpoint_moment (last_entry held o row) behind in
    let entries : AllBy m (entries_of held o row) = all_by_last 0 m (entries_of held o row) (ascend (entries_of held o row) object.stands.groups) (omega (arith, is)) in
    let upto : last_entry held o row ≤ s.latest = last_by 0 s.latest (entries_of held o row) (omega arith) object.by.entries in
    record { by = record { entries = entries; checkpoint = omega (arith, is, late) }; upto = omega (arith, is, upto) }

-- what is known where a checkpoint can be written
pub record Known (s : StoreFields) (o : ℕ) (row : Row) (i : Inode) (m : ℕ) : Type 0 where
  pub stands : IsRow s.log.held o row
  pub by : IsBy s.log.held o row m
  pub inode : i ≡ inode_of s.log.held o row m
  pub rules : checkpoint_rules (record { object = o; moment = m; inode = i }) ≡ true
  pub upto : m ≤ s.latest
  pub newer : IfSome row.checkpoint (λ _. row.checkpoint_moment < m)
  pub stamp : row.stamp + 1 < 2 ^ 64
  pub ahead : checkpoint_blocks (inode_of s.log.held o row m) ≤ length s.log.ahead
  pub some : 1 ≤ checkpoint_blocks (inode_of s.log.held o row m)

if_there : {A : Type 0} (x : Option Place) → A → IfSome x (λ _. A)
if_there None h = tt
if_there (Some p) h = h

pub known : GroupsAscend → RowsKeepTheMaking → CheckpointsTakeBlocks → (s : StoreFields) (o : ℕ) (row : Row) (i : Inode) (m : ℕ) → CanCheckpoint s o row i m → Known s o row i m
known ascend making takes s o row i m can =
    let held = s.log.held in
    let object = can.store.objects o row can.there in
    let made = (can.store.orderly o row can.there).made.0 in
    let bound = can.store.stamps o row can.there in
    let most = can.store.bounded in
    let free = can.room in
    let is = can.moment in
    let behind : row.checkpoint_moment < last_entry held o row = ltb-true row.checkpoint_moment (last_entry held o row) can.behind in
    let covered : Covers s o row m = covers ascend s o row m can.store can.there is can.behind in
    let same : checkpoint_blocks i ≡ checkpoint_blocks (inode_of held o row m) = ap checkpoint_blocks can.inode in
    let tidy = object.tidy m in
    let created : (inode_of held o row m).created ≡ row.created = making held o row m object.stands in
    let rules = keeps_rules o m (inode_of held o row m) object.stands.object (omega (arith, is, behind)) (omega (arith, created, made)) tidy.size
    (holes_all (inode_of held o row m).size (inode_of held o row m).pointers tidy.holes) in
    record {
      stands = object.stands;
      by = covered.by;
      inode = can.inode;
      rules = subst (λ (k : Inode). checkpoint_rules (record { object = o; moment = m; inode = k }) ≡ true) (sym can.inode) rules;
      upto = covered.upto;
      newer = if_there row.checkpoint (omega (arith, is, behind));
      stamp = omega (arith, bound, most);
      ahead = omega (arith, free, same);
      some = takes (inode_of held o row m);
    }

-- ---- what a checkpoint leaves

-- what was recorded: the object's next row stands, all its inodes are as they were, and its checkpoint alone was changed
pub record Rewrites (s : StoreFields) (log : Log) (o : ℕ) (row next : Row) (m : ℕ) : Type 0 where
  pub stands : IsRow log.held o next
  pub by : IsBy log.held o next m
  pub inode : (t : ℕ) → inode_of log.held o next t ≡ inode_of s.log.held o row t
  pub orderly : (latest : ℕ) → m ≤ latest → IsOrderly s.log.held o row latest → IsOrderly log.held o next latest
  pub fields : next ≡ record row { checkpoint = next.checkpoint; checkpoint_moment = m; sides = sides_after row }
  pub moved : IsMoved s.log.held (places_gone s.log.held o row) (checkpoint_places_of log.held o next) log.held
  pub some : IsSome next.checkpoint
  pub others : OnlyCheckpointChanged o s.log.held log.held
  pub takes : TakesPlaces (checkpoint_blocks (inode_of s.log.held o row m)) s.log log

-- the store with other rows and another log
abbrev pub next_store : StoreFields → List (ℕ × Row) → Log → StoreFields
next_store s rows log = record { rows = rows; log = log; latest = s.latest }

-- the rows with the next one, changed once more
abbrev pub IsPut : StoreFields → List (ℕ × Row) → ℕ → Row → Row → Type 0
IsPut s rows o row next = (q : ℕ) → row_of rows q ≡ with_row (row_of s.rows) o (record next { stamp = row.stamp + 1 }) q

checkpoint_stays : (o q : ℕ) (held later : Place → Option Stored) → OnlyCheckpointChanged o held later → (o == q) ≡ false → Stays q held later
checkpoint_stays o q held later only other = record {
  journal = only Journal q refl;
  checkpoints = same_checkpoints q held later (only Checkpoint q other) (only Pointers q other);
  kept = λ p there. ap (λ (view : Place → Option (List ℕ)). view p) (only Data q refl);
}

checkpoint_data : (o : ℕ) (held later : Place → Option Stored) → OnlyCheckpointChanged o held later → DataStays o held later
checkpoint_data o held later only p there = ap (λ (view : Place → Option (List ℕ)). view p) (only Data o refl)

-- the entries stay, and so do all inodes
pub rewritten_moves : (s : StoreFields) (log : Log) (o : ℕ) (row next : Row) (m : ℕ) → Rewrites s log o row next m → IsRow s.log.held o row → Moves s.log.held log.held o row next
rewritten_moves s log o row next m writes before = record {
  entries = ap (λ (r : Row). entries_of log.held o r) writes.fields ∙ same_entries s.log.held log.held o row (writes.others Journal o refl);
  inode = writes.inode;
  before = before;
  after = writes.stands;
}

rewritten_object : IsByLater → OnlyItsBlocksMatter → (s : StoreFields) (log : Log) (o : ℕ) (row next : Row) (m n : ℕ) → Rewrites s log o row next m → m ≤ s.latest → IsObject s.log.held o row s.latest → IsObject log.held o (record next { stamp = n }) s.latest
rewritten_object later_by matter s log o row next m n writes upto object =
    let stays = checkpoint_data o s.log.held log.held writes.others in
    let by = later_by log.held o next m s.latest upto writes.by in
    let is : (t : ℕ) → inode_of log.held o (record next { stamp = n }) t ≡ inode_of s.log.held o row t = λ t. stamped_inode log.held o next n t ∙ writes.inode t in
    record {
      stands = stamped_row log.held o next n writes.stands;
      by = record { entries = by.entries; checkpoint = by.checkpoint };
      led = moved_leads s.log.held log.held o row next (rewritten_moves s log o row next m writes object.stands)
          (λ t. subst (PointersHeld log.held o) (sym (writes.inode t)) (data_pointers o s.log.held log.held (inode_of s.log.held o row t) stays (object.pointers t)))
          (leads_later s.log.held log.held o (pointers_of s.log.held o row) (data_there o s.log.held log.held stays) object.led);
      tidy = λ t. subst (Tidy (contents_of log.held)) (sym (is t))
          ((matter (contents_of s.log.held) (contents_of log.held) (inode_of s.log.held o row t) (data_agree o s.log.held log.held (inode_of s.log.held o row t) stays (object.pointers t))).1 (object.tidy t));
      pointers = λ t. subst (PointersHeld log.held o) (sym (is t)) (data_pointers o s.log.held log.held (inode_of s.log.held o row t) stays (object.pointers t));
    }

-- what holds across rows is kept: no entry is added, and no making is another
rewritten_across : (s : StoreFields) (rows : List (ℕ × Row)) (log : Log) (o : ℕ) (row next : Row) (i : Inode) (m : ℕ) → CanCheckpoint s o row i m → Known s o row i m → Rewrites s log o row next m → IsPut s rows o row next → IsAcross log.held rows
rewritten_across s rows log o row next i m can know writes put =
    let entries : entries_of log.held o next ≡ entries_of s.log.held o row = (rewritten_moves s log o row next m writes know.stands).entries in
    changed_across s.rows rows s.log.held log.held o row (record next { stamp = row.stamp + 1 }) (s.latest + 1) s.latest [] can.there put (ap (λ (r : Row). r.created) writes.fields)
    (entries ∙ sym (append-nil (entries_of s.log.held o row))) tt (omega arith) (λ q r e. (can.store.objects q r e).by.entries)
    (λ q r other e. same_entries s.log.held log.held q r (checkpoint_stays o q s.log.held log.held writes.others other).journal)
    (record { ascending = can.store.ascending; apart = can.store.apart })

-- one object's row is changed by it
rewritten_changes : ChangesStand → (s : StoreFields) (rows : List (ℕ × Row)) (log : Log) (o : ℕ) (row next : Row) (i : Inode) (m : ℕ)
    → CanCheckpoint s o row i m → Known s o row i m → Rewrites s log o row next m → IsPut s rows o row next → Counts s.log log o next
    → Changes s (next_store s rows log) o (checkpoint_blocks (inode_of s.log.held o row m)) (Some (record next { stamp = row.stamp + 1 }))
rewritten_changes rest s rows log o row next i m can know writes put counts = record {
  put = put;
  here = some_keeps (next_store s rows log) o (record next { stamp = row.stamp + 1 }) (record {
    object = rewritten_object rest.later rest.meaning s log o row next m (row.stamp + 1) writes know.upto (can.store.objects o row can.there);
    orderly = rest.orderly.stamp log.held o s.latest (row.stamp + 1) next (writes.orderly s.latest know.upto (can.store.orderly o row can.there));
    counted = counts.here;
    few = counts.few;
    stamp = let some = know.some in let bound = can.store.stamps o row can.there in let more : log.spent ≡ checkpoint_blocks (inode_of s.log.held o row m) + s.log.spent = writes.takes.spent in omega (arith, bound, more, some);
  });
  gone = some_stays (record next { stamp = row.stamp + 1 }) (HasNothing log.held o);
  names = counts.names;
  beside = counts.beside;
  others = checkpoint_others o s.log.held log.held writes.others;
  takes = writes.takes;
  sum = sum_stays (checkpoint_blocks (inode_of s.log.held o row m)) s.log log writes.takes know.ahead;
  latest = omega arith;
  across = rewritten_across s rows log o row next i m can know writes put;
}

rewritten_inodes : ChangesStand → (s : StoreFields) (rows : List (ℕ × Row)) (log : Log) (o : ℕ) (row next : Row) (m count : ℕ) → row_of s.rows o ≡ Some row → Rewrites s log o row next m
    → Changes s (next_store s rows log) o count (Some (record next { stamp = row.stamp + 1 })) → (q t : ℕ) → inode_in (next_store s rows log) q t ≡ inode_in s q t
rewritten_inodes rest s rows log o row next m count there writes changes q t =
    changed_inodes rest s (next_store s rows log) o count (Some (record next { stamp = row.stamp + 1 })) changes q t
    ∙ ap (λ (i : Option Inode). cond (o == q) i (inode_in s q t)) (ap (λ (i : Inode). Some i) (stamped_inode log.held o next (row.stamp + 1) t ∙ writes.inode t) ∙ sym (ap (inode_by s.log.held o t) there))
    ∙ own_or_other o q (λ n. inode_in s n t)

rewritten_versions : ChangesStand → (s : StoreFields) (rows : List (ℕ × Row)) (log : Log) (o : ℕ) (row next : Row) (m count : ℕ) → IsStore s → row_of s.rows o ≡ Some row → Rewrites s log o row next m
    → Changes s (next_store s rows log) o count (Some (record next { stamp = row.stamp + 1 })) → (q t : ℕ) → version_in (next_store s rows log) q t ≡ version_in s q t
rewritten_versions rest s rows log o row next m count store there writes changes q t =
    let i : Inode = inode_of s.log.held o row t in
    changed_versions rest s (next_store s rows log) o count (Some (record next { stamp = row.stamp + 1 })) (store_others s o store) changes q t
    ∙ ap (λ (v : Version). cond (o == q) v (version_in s q t))
    (ap (meaning (contents_of log.held)) (stamped_inode log.held o next (row.stamp + 1) t ∙ writes.inode t)
    ∙ (rest.meaning (contents_of s.log.held) (contents_of log.held) i (data_agree o s.log.held log.held i (checkpoint_data o s.log.held log.held writes.others) ((store.objects o row there).pointers t))).0
    ∙ sym (ap (λ (r : Option Row). version_by s.log.held (inode_by s.log.held o t r)) there))
    ∙ own_or_other o q (λ n. version_in s n t)

rewritten_rows : (s : StoreFields) (rows : List (ℕ × Row)) (o : ℕ) (row next : Row) → row_of s.rows o ≡ Some row → IsPut s rows o row next → (q : ℕ) → is_some (row_of rows q) ≡ is_some (row_of s.rows q)
rewritten_rows s rows o row next there put q = elim (cases_Bool (o == q)) [
  | inl is ↦
      let here : o ≡ q = eqb-true o q is in
      subst (λ (k : ℕ). is_some (row_of rows k) ≡ is_some (row_of s.rows k)) here
      (ap (λ (r : Option Row). is_some r) (put o ∙ row_here (row_of s.rows) o (record next { stamp = row.stamp + 1 })) ∙ sym (ap (λ (r : Option Row). is_some r) there))
  | inr other ↦ ap (λ (r : Option Row). is_some r) (put q ∙ row_beside (row_of s.rows) o q (record next { stamp = row.stamp + 1 }) other)
]

pub some_place : (c : Option Place) → IsSome c → (p : Place) × (c ≡ Some p)
some_place None some = absurd (false≢true some)
some_place (Some p) some = (p, refl)

-- the checkpoint that stands then is the present inode
rewritten_told : LastInodeStays → (s : StoreFields) (log : Log) (o : ℕ) (row next : Row) (i : Inode) (m : ℕ) (p : Place) → CanCheckpoint s o row i m → Known s o row i m → Rewrites s log o row next m → next.checkpoint ≡ Some p
    → checkpoint_held log.held o p ≡ Some (record { object = o; moment = last_entry s.log.held o row; inode = inode_of s.log.held o row s.latest })
rewritten_told last s log o row next i m p can know writes at =
    let told = subst (λ (c : Option Place). MatchOption c (next.checkpoint_moment ≡ 0) (λ q. checkpoint_held log.held o q ≡ Some (record { object = o; moment = next.checkpoint_moment; inode = inode_of log.held o next next.checkpoint_moment }))) at writes.stands.checkpoint in
    let moment : next.checkpoint_moment ≡ m = ap (λ (r : Row). r.checkpoint_moment) writes.fields in
    told
    ∙ ap (λ (k : ℕ). Some (record { object = o; moment = k; inode = inode_of log.held o next k })) moment
    ∙ ap (λ (j : Inode). Some (record { object = o; moment = m; inode = j })) (writes.inode m ∙ sym (last s.log.held o row m s.latest know.by know.upto))
    ∙ ap (λ (k : ℕ). Some (record { object = o; moment = k; inode = inode_of s.log.held o row s.latest })) can.moment

rewritten_made : LastInodeStays → (s : StoreFields) (rows : List (ℕ × Row)) (log : Log) (o : ℕ) (row next : Row) (i : Inode) (m : ℕ) → CanCheckpoint s o row i m → Known s o row i m → Rewrites s log o row next m → IsPut s rows o row next
    → IsCheckpointed s o row (next_store s rows log)
rewritten_made last s rows log o row next i m can know writes put =
    let (p, at) = some_place next.checkpoint writes.some in
    let is : record next { stamp = row.stamp + 1 } ≡ record row { checkpoint = Some p; checkpoint_moment = last_entry s.log.held o row; sides = sides_after row; stamp = row.stamp + 1 } =
    ap (λ (r : Row). record r { stamp = row.stamp + 1 }) writes.fields
    ∙ ap (λ (c : Option Place). record row { checkpoint = c; checkpoint_moment = m; sides = sides_after row; stamp = row.stamp + 1 }) at
    ∙ ap (λ (k : ℕ). record row { checkpoint = Some p; checkpoint_moment = k; sides = sides_after row; stamp = row.stamp + 1 }) can.moment in
    record {
      place = p;
      put = λ q. put q ∙ ap (λ (r : Row). with_row (row_of s.rows) o r q) is;
      written = rewritten_told last s log o row next i m p can know writes at;
      moved = subst (λ (c : Option Place). IsMoved s.log.held (places_gone s.log.held o row) (places_named (of_checkpoints o log.held) c) log.held) at writes.moved;
      others = writes.others;
      takes = subst (λ (j : Inode). TakesPlaces (checkpoint_blocks j) s.log log) (sym (last s.log.held o row m s.latest know.by know.upto)) writes.takes;
    }

rewritten_current : (s : StoreFields) (rows : List (ℕ × Row)) (log : Log) (o : ℕ) (row next : Row) (m : ℕ) → Rewrites s log o row next m → IsPut s rows o row next
    → IfSome (row_of rows o) (λ r. AllBy r.checkpoint_moment (entries_of log.held o r))
rewritten_current s rows log o row next m writes put =
    let found : row_of rows o ≡ Some (record next { stamp = row.stamp + 1 }) = put o ∙ row_here (row_of s.rows) o (record next { stamp = row.stamp + 1 }) in
    let moment : next.checkpoint_moment ≡ m = ap (λ (r : Row). r.checkpoint_moment) writes.fields in
    let by : AllBy next.checkpoint_moment (entries_of log.held o next) = subst (λ (k : ℕ). AllBy k (entries_of log.held o next)) (sym moment) writes.by.entries in
    subst (λ (r : Option Row). IfSome r (λ x. AllBy x.checkpoint_moment (entries_of log.held o x))) (sym found) by

pub rewritten : ChangesStand → (s : StoreFields) (rows : List (ℕ × Row)) (log : Log) (o : ℕ) (row next : Row) (i : Inode) (m : ℕ)
    → CanCheckpoint s o row i m → Known s o row i m → Rewrites s log o row next m → IsPut s rows o row next → Counts s.log log o next → Checkpointed s o row (next_store s rows log)
rewritten rest s rows log o row next i m can know writes put counts =
    let count = checkpoint_blocks (inode_of s.log.held o row m) in
    let changes = rewritten_changes rest s rows log o row next i m can know writes put counts in
    record {
      stands = record {
        store = changed_store rest s (next_store s rows log) o count (Some (record next { stamp = row.stamp + 1 })) (store_others s o can.store) changes;
        versions = rewritten_versions rest s rows log o row next m count can.store can.there writes changes;
        inodes = rewritten_inodes rest s rows log o row next m count can.there writes changes;
        latest = refl;
        rows = rewritten_rows s rows o row next can.there put;
      };
      made = rewritten_made rest.last s rows log o row next i m can know writes put;
      current = rewritten_current s rows log o row next m writes put;
    }

-- ---- where nothing has to be written

pub same_current : GroupsAscend → (s later : StoreFields) (o : ℕ) (row : Row) → later ≡ s → IsStore s → row_of s.rows o ≡ Some row → is_behind s.log.held o row ≡ false
    → IfSome (row_of later.rows o) (λ r. AllBy r.checkpoint_moment (entries_of later.log.held o r))
same_current ascend s later o row same store there behind =
    subst (λ (v : StoreFields). IfSome (row_of v.rows o) (λ r. AllBy r.checkpoint_moment (entries_of v.log.held o r))) (sym same)
    (subst (λ (found : Option Row). IfSome found (λ r. AllBy r.checkpoint_moment (entries_of s.log.held o r))) (sym there)
    (covered ascend s.log.held o row (store.objects o row there).stands behind))
