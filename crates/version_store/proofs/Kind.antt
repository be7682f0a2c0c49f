-- Each kind of change: its entries can be written, and what it leaves.
use Rattle.std.proofs.Common.{◌≡◌, ℕ, ◌+◌, ◌≤◌, ◌==◌, ◌&&◌, ◌||◌, leb, Bool, true, false, cond, List, [], length, map, drop, sum, Option, Some, None, IsSome, refl, sym, ap, subst, ◌∙◌, inl, inr, arith}
use Rattle.std.specs.Prelude.{is_some}
use Rattle.std.proofs.lemmas.Bool.{cases_Bool, cond-true, cond-false, or_right, eqb-true, eq-eqb, eqb-false, ne_eqb, false≢true, true≢false, and_left}
use Rattle.std.proofs.Math.Bool.{or-false}
use Rattle.s4_types.specs.Pointer.{Place}
use Rattle.s4_types.specs.declared.changes.Change.{Change}
use Rattle.s4_types.specs.declared.changes.Change.TheVariants.{Create, Delete, Write, Truncate, SetAttr, SetWindow, Flush, FlushO}
use Rattle.s4_types.specs.declared.versions.Version.{Version}
use Rattle.s4_types.specs.declared.limits.TheConstants.{OBJECT_BLOCKS, OBJECT_BYTES}
use Rattle.s4_model.specs.Effect.{effect, is_change_of, object_of}
use Rattle.block_log.specs.Taken.{TakesPlaces}
use Rattle.block_log.specs.Log.{Log}
use Rattle.codec.specs.Entry.{EntryFields, entry_length, entries_length}
use Rattle.codec.specs.declared.inodes.Inode.{Inode}
use Rattle.journal_chain.specs.Sizes.{blocks_needed}
use Rattle.undo_redo.specs.Runs.{blank}
use Rattle.undo_redo.specs.Between.{CanLead, entries_between, triples_between}
use Rattle.inode.specs.Contents.{contents_of, meaning}
use Rattle.inode.specs.Tidiness.{Tidy, PointersHeld}
use Rattle.inode.specs.Growth.{GrowsBy, with_data}
use Rattle.inode.specs.Laws.{OnlyItsBlocksMatter}
use Rattle.object_map.specs.declared.map.Row.{Row}
use Rattle.object_map.specs.Rows.{row_of, with_row, fresh_row}
use Rattle.time_read.specs.Rows.{inode_of}
use Rattle.version_store.specs.Store.{StoreFields}
use Rattle.version_store.specs.Versions.{version_in, version_taken}
use Rattle.version_store.specs.Costs.{subject_row, subject_inode, row_or_fresh, pointers_moved, data_blocks, attribute_by, sizes_by, refusal_by, blocks_taken, room}
use Rattle.version_store.specs.Taking.{IsReadyFor, IsAboveAll, RowChanges, data_by}
use Rattle.version_store.specs.private.Turning.{CanTake, CanTurn, Turns, IsTaken, blocks_turned}
use Rattle.version_store.specs.private.Below.{OnePlace, PlacesAddUp, OrderlyStays, RowStays, RowInodeStays, IsByStays, IsByLater, FreshRowStands, FreshRowIsBy, FreshInode, BlankCount, BlankHoles, EntriesHaveSizes, SizesAddUp}
use Rattle.version_store.proofs.Frames.{growth_stays, stays_inode}
use Rattle.version_store.proofs.Handed.{IsInHand}
use Rattle.version_store.proofs.Steps.{grown_store, grown_versions, added_store, added_versions, row_here, row_beside}
use Rattle.version_store.proofs.Across.{above_has_none}
use Rattle.version_store.proofs.Subjects.{IsSubject, free_of, counted, room_to_push}

-- ---- which inodes entries lead to

-- one that is still alive
pub alive_leads : (i j : Inode) (m : ℕ) → 1 ≤ m → i.alive ≡ true → j.alive ≡ i.alive → j.created ≡ i.created → j.changed ≡ m → length i.pointers ≡ OBJECT_BLOCKS → length j.pointers ≡ OBJECT_BLOCKS → i.size ≤ OBJECT_BYTES → j.size ≤ OBJECT_BYTES → CanLead i j m
alive_leads i j m later alive same created changed count_before count_after size_before size_after = record {
  moment = later;
  created = sym created;
  count_before = count_before;
  count_after = count_after;
  size_before = size_before;
  size_after = size_after;
  was_nothing = λ dead. absurd (true≢false (sym alive ∙ dead));
  changed = λ is. changed;
  flag_alone = λ dead. absurd (true≢false (sym (same ∙ alive) ∙ dead));
}

-- one that was deleted
pub deleted_leads : (i : Inode) (m : ℕ) → 1 ≤ m → i.alive ≡ true → length i.pointers ≡ OBJECT_BLOCKS → i.size ≤ OBJECT_BYTES → CanLead i (record i { alive = false }) m
deleted_leads i m later alive count size = record {
  moment = later;
  created = refl;
  count_before = count;
  count_after = count;
  size_before = size;
  size_after = size;
  was_nothing = λ dead. absurd (true≢false (sym alive ∙ dead));
  changed = λ is. absurd (false≢true is);
  flag_alone = λ dead. ap (λ (b : Bool). record i { alive = b }) alive;
}

-- the first one
pub created_leads : (j : Inode) (m : ℕ) → 1 ≤ m → j.alive ≡ true → j.created ≡ m → j.changed ≡ m → length (blank m).pointers ≡ OBJECT_BLOCKS → length j.pointers ≡ OBJECT_BLOCKS → j.size ≡ 0 → CanLead (blank m) j m
unfolding blank
created_leads j m later alive created changed count_before count_after size = record {
  moment = later;
  created = sym created;
  count_before = count_before;
  count_after = count_after;
  size_before = omega arith;
  size_after = omega (arith, size);
  was_nothing = λ dead. (refl, refl);
  changed = λ is. changed;
  flag_alone = λ dead. absurd (true≢false (sym alive ∙ dead));
}

-- ---- what a change makes

-- What a change makes of an inode and of a log: the data blocks were appended, and all else is as the change tells.
pub record Makes (s : StoreFields) (change : Change) (m : ℕ) (i : Inode) (log : Log) (j : Inode) : Type 0 where
  pub grows : GrowsBy (object_of change) (data_by (contents_of s.log.held) change i) s.log log
  pub made : log ≡ with_data (object_of change) (data_by (contents_of s.log.held) change i) s.log
  pub amount : length (data_by (contents_of s.log.held) change i) ≡ data_blocks change i
  pub moved : length (triples_between i j) ≡ pointers_moved change i
  pub attribute : j.attribute ≡ attribute_by change i
  pub lead : CanLead i j m
  pub tidy : Tidy (contents_of log.held) j
  pub pointers : PointersHeld log.held (object_of change) j
  pub means : meaning (contents_of log.held) j ≡ effect change m (meaning (contents_of s.log.held) i)

-- a change that a store takes is one of its object's versions
of_object : (s : StoreFields) (change : Change) → IsReadyFor s change → (q : ℕ) → is_change_of q change ≡ (object_of change == q)
of_object s (Create object attribute) ready q = refl
of_object s (Delete object) ready q = refl
of_object s (Write object offset bytes) ready q = refl
of_object s (Truncate object size) ready q = refl
of_object s (SetAttr object attribute) ready q = refl
of_object s (SetWindow window) ready q = absurd ready
of_object s (Flush first last) ready q = absurd ready
of_object s (FlushO object first last) ready q = absurd ready

-- the entries of a change have the sizes that were counted
sizes_made : EntriesHaveSizes → (s : StoreFields) (change : Change) (m : ℕ) (i : Inode) (log : Log) (j : Inode) → Makes s change m i log j → map entry_length (entries_between i j m) ≡ sizes_by change i
sizes_made sizes s change m i log j makes = counted sizes change i j m makes.moved makes.attribute

-- so they have the bytes that were counted
pub bytes_made : EntriesHaveSizes → SizesAddUp → (s : StoreFields) (change : Change) (m : ℕ) (i : Inode) (log : Log) (j : Inode) (bytes : ℕ) → Makes s change m i log j → bytes ≡ sum (sizes_by change i) → bytes ≡ entries_length (entries_between i j m)
bytes_made sizes add_up s change m i log j bytes makes is = is ∙ sym (ap sum (sizes_made sizes s change m i log j makes)) ∙ add_up (entries_between i j m)

-- ---- a change of an object that is there

pub can_turn : OnePlace → OrderlyStays → RowStays → RowInodeStays → IsByStays → OnlyItsBlocksMatter → EntriesHaveSizes → SizesAddUp → (s : StoreFields) (change : Change) (m : ℕ) (log : Log) (i j : Inode) (hand : List (Option Place))
    → CanTake s change m i → IsSubject s (object_of change) m i → Makes s change m i log j → IsInHand s.log log j hand → CanTurn (record s { log = log }) (object_of change) i j hand m
can_turn one orderly stands same by matter sizes add_up s change m log i j hand can subject makes in_hand =
    let free_row : refusal_by (room s) change subject.row i ≡ None =
    ap (refusal_by (room s) change subject.row) can.begins ∙ sym (ap (λ (r : Row). refusal_by (room s) change r (subject_inode s (object_of change) m)) subject.subject) ∙ can.free in
    record {
      store = grown_store one orderly stands same by matter s log (object_of change) (data_by (contents_of s.log.held) change i) j hand makes.grows in_hand makes.pointers (subst (λ (r : Option Row). IsSome r) (sym subject.there) refl) can.store;
      later = can.later;
      row = subject.row;
      there = subject.there;
      before = subject.is ∙ sym (stays_inode same (object_of change) s.log.held log.held subject.row s.latest (growth_stays (object_of change) (data_by (contents_of s.log.held) change i) s.log log (object_of change) makes.grows));
      from =
          let stays = growth_stays (object_of change) (data_by (contents_of s.log.held) change i) s.log log (object_of change) makes.grows in
          inr (orderly.blocks s.log.held log.held (object_of change) s.latest subject.row stays.journal stays.checkpoints (can.store.orderly (object_of change) subject.row subject.there), subject.alive);
      lead = makes.lead;
      tidy = makes.tidy;
      pointers = makes.pointers;
      room = room_to_push add_up change subject.row (object_of change) s.log.ahead log.ahead (entries_between i j m) i (free_of (room s) change subject.row i free_row)
          (sizes_made sizes s change m i log j makes) can.fit (makes.grows.takes.ahead ∙ ap (λ n. drop n s.log.ahead) makes.amount);
    }

-- exactly the object of the changed row has one that it may not have had
rows_with : (rows after : ℕ → Option Row) (o q : ℕ) (row : Row) → after q ≡ with_row rows o row q → is_some (after q) ≡ (is_some (rows q) || q == o)
rows_with rows after o q row put = elim (cases_Bool (o == q)) [
  | inl is ↦ ap is_some (put ∙ cond-true (o == q) (Some row) (rows q) is) ∙ sym (or_right (is_some (rows q)) (q == o) (eq-eqb q o (sym (eqb-true o q is))))
  | inr other ↦
      let ne : (q == o) ≡ false = ne_eqb q o (λ (e : q ≡ o). eqb-false o q other (sym e)) in
      ap is_some (put ∙ row_beside rows o q row other) ∙ sym (ap (λ (b : Bool). is_some (rows q) || b) ne ∙ or-false (is_some (rows q)))
]

-- the blocks of the data, and those of the turn after it
both_taken : PlacesAddUp → (before between after : Log) (n k m : ℕ) → TakesPlaces n before between → TakesPlaces k between after → n + k ≡ m → TakesPlaces m before after
both_taken add_up before between after n k m first second sum_is = subst (λ count. TakesPlaces count before after) sum_is (add_up n k before between after first second)

blocks_counted : (change : Change) (row : Row) (i : Inode) (entries : List EntryFields) (n : ℕ) → map entry_length entries ≡ sizes_by change i → n ≡ data_blocks change i
    → n + blocks_needed row.head_bytes (map entry_length entries) ≡ data_blocks change i + blocks_needed row.head_bytes (sizes_by change i)
blocks_counted change row i entries n sizes amount = let same : blocks_needed row.head_bytes (map entry_length entries) ≡ blocks_needed row.head_bytes (sizes_by change i) = ap (blocks_needed row.head_bytes) sizes in omega (arith, same, amount)

-- versions after a turn, from those before the change
turned_versions : (s between later : StoreFields) (change : Change) (m : ℕ) (j : Inode) (count : ℕ) → ((q : ℕ) → is_change_of q change ≡ (object_of change == q)) → ((q t : ℕ) → version_in between q t ≡ version_in s q t)
    → meaning (contents_of between.log.held) j ≡ effect change m (version_in s (object_of change) s.latest) → Turns between (object_of change) m j count later
    → (q t : ℕ) → version_in later q t ≡ version_taken s change m q t
turned_versions s between later change m j count of same means turns q t =
    let o : ℕ = object_of change in
    turns.versions q t
    ∙ ap (cond (object_of change == q && leb m t) (meaning (contents_of between.log.held) j)) (same q t)
    ∙ elim (cases_Bool (object_of change == q)) [
      | inl is ↦
          let here : object_of change ≡ q = eqb-true (object_of change) q is in
          ap (λ (v : Version). cond (object_of change == q && leb m t) v (version_in s q t)) (means ∙ ap (λ (k : ℕ). effect change m (version_in s k s.latest)) here)
          ∙ ap (λ (b : Bool). cond (b && leb m t) (effect change m (version_in s q s.latest)) (version_in s q t)) (sym (of q))
      | inr other ↦
          cond-false (object_of change == q && leb m t) (meaning (contents_of between.log.held) j) (version_in s q t) (and_left (object_of change == q) (leb m t) other)
          ∙ sym (cond-false (is_change_of q change && leb m t) (effect change m (version_in s q s.latest)) (version_in s q t) (and_left (is_change_of q change) (leb m t) (of q ∙ other)))
    ]

pub taken_of : PlacesAddUp → RowInodeStays → OnlyItsBlocksMatter → EntriesHaveSizes → (s later : StoreFields) (change : Change) (m : ℕ) (log : Log) (i j : Inode)
    → CanTake s change m i → IsSubject s (object_of change) m i → Makes s change m i log j
    → Turns (record s { log = log }) (object_of change) m j (blocks_turned (record s { log = log }) (object_of change) i j m) later → IsTaken s change m i later
taken_of places_add_up same matter sizes s later change m log i j can subject makes turns = record {
  store = turns.store;
  taken = turned_versions s (record s { log = log }) later change m j (blocks_turned (record s { log = log }) (object_of change) i j m) (of_object s change can.takes.ready)
      (grown_versions same matter s log (object_of change) (data_by (contents_of s.log.held) change i) makes.grows can.store) (makes.means ∙ sym (ap (effect change m) subject.version)) turns;
  latest = turns.latest;
  rows = λ q. rows_with (row_of s.rows) (row_of later.rows) (object_of change) q turns.row.next (turns.row.put q);
  row = record { next = turns.row.next; rest = turns.row.rest; put = turns.row.put };
  blocks = record {
    between = log;
    grown = makes.made;
    growth = makes.grows;
    others = turns.others;
    takes = both_taken places_add_up s.log log later.log (length (data_by (contents_of s.log.held) change i)) (blocks_turned (record s { log = log }) (object_of change) i j m) (blocks_taken s change m) makes.grows.takes turns.takes
        (blocks_counted change (subject_row s (object_of change) m) i (entries_between i j m) (length (data_by (contents_of s.log.held) change i)) (sizes_made sizes s change m i log j makes) makes.amount
        ∙ ap (λ (k : Inode). data_blocks change k + blocks_needed (subject_row s (object_of change) m).head_bytes (sizes_by change k)) can.begins);
  };
}

-- ---- the creation of an object

fresh_subject : (s : StoreFields) (o m : ℕ) → row_of s.rows o ≡ None → subject_row s o m ≡ fresh_row m
fresh_subject s o m none = ap (row_or_fresh m) none

pub blank_subject : FreshInode → (s : StoreFields) (o m : ℕ) → row_of s.rows o ≡ None → subject_inode s o m ≡ blank m
blank_subject fresh s o m none = ap (λ (r : Row). inode_of s.log.held o r s.latest) (fresh_subject s o m none) ∙ fresh s.log.held o m s.latest

pub can_create : FreshRowStands → FreshRowIsBy → FreshInode → IsByLater → BlankCount → BlankHoles → EntriesHaveSizes → SizesAddUp → (s : StoreFields) (change : Change) (m : ℕ) (rows : List (ℕ × Row)) (i j : Inode)
    → CanTake s change m i → IsAboveAll s (object_of change) → Makes s change m i s.log j → data_blocks change i ≡ 0
    → ((q : ℕ) → row_of rows q ≡ with_row (row_of s.rows) (object_of change) (fresh_row m) q) → CanTurn (record s { rows = rows }) (object_of change) i j [] m
can_create stands by fresh later_by count holes sizes add_up s change m rows i j can above makes no_data put =
    let none : row_of s.rows (object_of change) ≡ None = above_has_none s (object_of change) above in
    let subject : subject_row s (object_of change) m ≡ fresh_row m = fresh_subject s (object_of change) m none in
    let free_row : refusal_by (room s) change (fresh_row m) i ≡ None =
    ap (refusal_by (room s) change (fresh_row m)) can.begins ∙ sym (ap (λ (r : Row). refusal_by (room s) change r (subject_inode s (object_of change) m)) subject) ∙ can.free in
    record {
      store = added_store stands by fresh later_by count holes s rows (object_of change) m j put can.takes.numbered above can.later can.store;
      later = can.later;
      row = fresh_row m;
      there = put (object_of change) ∙ row_here (row_of s.rows) (object_of change) (fresh_row m);
      before = can.begins ∙ ap (λ (r : Row). inode_of s.log.held (object_of change) r s.latest) subject;
      from = inl refl;
      lead = makes.lead;
      tidy = makes.tidy;
      pointers = makes.pointers;
      room = room_to_push add_up change (fresh_row m) (object_of change) s.log.ahead s.log.ahead (entries_between i j m) i (free_of (room s) change (fresh_row m) i free_row)
          (sizes_made sizes s change m i s.log j makes) can.fit (sym (ap (λ n. drop n s.log.ahead) no_data));
    }

-- a row that replaces the one that was added is put among the older ones
put_again : (rows between after : ℕ → Option Row) (o : ℕ) (first next : Row) → ((q : ℕ) → between q ≡ with_row rows o first q) → ((q : ℕ) → after q ≡ with_row between o next q) → (q : ℕ) → after q ≡ with_row rows o next q
put_again rows between after o first next added put q = elim (cases_Bool (o == q)) [
  | inl is ↦ put q ∙ cond-true (o == q) (Some next) (between q) is ∙ sym (cond-true (o == q) (Some next) (rows q) is)
  | inr other ↦ put q ∙ row_beside between o q next other ∙ added q ∙ row_beside rows o q first other ∙ sym (row_beside rows o q next other)
]

created_row : (s between : StoreFields) (o m : ℕ) (rows : List (ℕ × Row)) (first : Row) → subject_row between o m ≡ subject_row s o m → ((q : ℕ) → row_of between.rows q ≡ with_row (row_of s.rows) o first q) → RowChanges between o m rows → RowChanges s o m rows
created_row s between o m rows first subject added changes = record {
  next = changes.next;
  rest = subst (λ (r : Row). changes.next ≡ record r { head = changes.next.head; journal_bytes = changes.next.journal_bytes; head_bytes = changes.next.head_bytes; stamp = r.stamp + 1 }) subject changes.rest;
  put = put_again (row_of s.rows) (row_of between.rows) (row_of rows) o first changes.next added changes.put;
}

-- a change without data takes the blocks of its turn
turned_alone : (n : ℕ) → n ≡ 0 + n
turned_alone n = omega arith

pub created_taken : FreshInode → EntriesHaveSizes → (s later : StoreFields) (change : Change) (m : ℕ) (rows : List (ℕ × Row)) (i j : Inode)
    → CanTake s change m i → IsAboveAll s (object_of change) → Makes s change m i s.log j → data_blocks change i ≡ 0
    → ((q : ℕ) → row_of rows q ≡ with_row (row_of s.rows) (object_of change) (fresh_row m) q) → effect change m (version_in s (object_of change) s.latest) ≡ effect change m (meaning (contents_of s.log.held) i)
    → Turns (record s { rows = rows }) (object_of change) m j (blocks_turned (record s { rows = rows }) (object_of change) i j m) later → IsTaken s change m i later
created_taken fresh sizes s later change m rows i j can above makes no_data put begins turns =
    let none : row_of s.rows (object_of change) ≡ None = above_has_none s (object_of change) above in
    let subject : subject_row (record s { rows = rows }) (object_of change) m ≡ subject_row s (object_of change) m =
    ap (row_or_fresh m) (put (object_of change) ∙ row_here (row_of s.rows) (object_of change) (fresh_row m)) ∙ sym (fresh_subject s (object_of change) m none) in
    let changes = created_row s (record s { rows = rows }) (object_of change) m later.rows (fresh_row m) subject put turns.row in
    record {
      store = turns.store;
      taken = turned_versions s (record s { rows = rows }) later change m j (blocks_turned (record s { rows = rows }) (object_of change) i j m) (of_object s change can.takes.ready)
          (added_versions fresh s rows (object_of change) m put none) (makes.means ∙ sym begins) turns;
      latest = turns.latest;
      rows = λ q. rows_with (row_of s.rows) (row_of later.rows) (object_of change) q changes.next (changes.put q);
      row = changes;
      blocks = record {
        between = s.log;
        grown = makes.made;
        growth = makes.grows;
        others = turns.others;
        takes = subst (λ count. TakesPlaces count s.log later.log)
            (turned_alone (blocks_turned (record s { rows = rows }) (object_of change) i j m)
            ∙ ap (λ (r : Row). 0 + blocks_needed r.head_bytes (map entry_length (entries_between i j m))) subject
            ∙ blocks_counted change (subject_row s (object_of change) m) i (entries_between i j m) 0 (sizes_made sizes s change m i s.log j makes) (sym no_data)
            ∙ ap (λ (k : Inode). data_blocks change k + blocks_needed (subject_row s (object_of change) m).head_bytes (sizes_by change k)) can.begins)
            turns.takes;
      };
    }
