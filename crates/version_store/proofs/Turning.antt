-- The turn of an object to its next inode.
use Rattle.std.proofs.Common.{◌≡◌, inl, inr, true, false, ℕ, ◌+◌, ◌-◌, ◌^◌, ◌<◌, ◌≤◌, ◌==◌, ◌++◌, leb, nat_le, if◌then◌else◌, cond, Bool, List, length, map, Option, Some, IsSome, sym, ap, refl, subst, ◌∙◌, arith}
use Rattle.std.specs.List.{All, AllByRecursion, Contains}
use Rattle.std.proofs.lemmas.Bool.{cases_lt, cond-true, eq-eqb, le-leb}
use Rattle.std.proofs.lemmas.List.{length-map}
use Rattle.std.proofs.lemmas.Option.{same_Some}
use Rattle.s4_types.specs.Pointer.{Place}
use Rattle.s4_types.specs.declared.limits.TheConstants.{OBJECT_BLOCKS, ROW_POINTERS, SIDES}
use Rattle.block_log.specs.Log.{Log, Stored, of_kind}
use Rattle.block_log.specs.Taken.{TakesPlaces}
use Rattle.block_log.specs.declared.kinds.BlockKind.TheVariants.{Checkpoint, Data, Pointers}
use Rattle.checkpoint.specs.Held.{of_checkpoints}
use Rattle.codec.specs.Checkpoint.{CheckpointFields, pointer_at}
use Rattle.codec.specs.Entry.{EntryFields, entry_length}
use Rattle.codec.specs.declared.inodes.Inode.{Inode}
use Rattle.journal_chain.specs.Sizes.{blocks_needed}
use Rattle.undo_redo.specs.Between.{AreOf, entries_between}
use Rattle.journal_chain.specs.Chain.{OnlyJournalChanged}
use Rattle.journal_chain.specs.Push.{HasRoom, pushed_blocks}
use Rattle.inode.specs.Tidiness.{PointersHeld}
use Rattle.checkpoint.proofs.OwnBlocks.{same_checkpoints}
use Rattle.object_map.specs.declared.map.Row.{Row}
use Rattle.object_map.specs.Rows.{row_of, with_row, fresh_row}
use Rattle.time_read.specs.Rows.{IsRow, chain_of, entries_of, checkpoint_of, inode_of}
use Rattle.time_read.specs.Orderly.{IsOrderly}
use Rattle.row_changes.specs.Recent.{IsBy}
use Rattle.object_map.specs.declared.sides.Side.{Side}
use Rattle.row_changes.proofs.Pushing.{same_checkpoint}
use Rattle.version_store.specs.Store.{IsLed, StoreFields, StoreOf, fields_of, named_of, pointers_aside, pointers_kept, pointers_named, pointers_of, pointers_of_sides, sides_told, times_led}
use Rattle.version_store.specs.Costs.{row_or_fresh, subject_row}
use Rattle.version_store.specs.Taking.{RowChanges}
use Rattle.version_store.specs.private.Turning.{CanTurn, IsOpenFor, Turns, blocks_turned, times_given}
use Rattle.version_store.specs.private.Recounting.{Counts, Recounts}
use Rattle.version_store.specs.private.Below.{ChangesStand, OnePlace, OrderlyStays, IsByLater, LastInodeStays, EntriesAreAt}
use Rattle.version_store.specs.declared.store.Store.TheInside.{Inside}
use Rattle.version_store.proofs.Inside.{opened, seen}
use Rattle.version_store.proofs.Telling.{Grows, between_led, grown_sides, inode_told, leads_later}
use Rattle.version_store.proofs.Named.{contained_times, named_alike, named_there, recounts_all, there_named, times_contained, times_few, times_joined}
use Rattle.version_store.proofs.Recounted.{names_few, pointers_few, same_aside, told_led}
use Rattle.version_store.proofs.Steps.{Records, recorded}

-- what is known of the row of an object that can turn
pub record Known (s : StoreFields) (o : ℕ) (i j : Inode) (m : ℕ) (row : Row) : Type 0 where
  pub stands : IsRow s.log.held o row
  pub earlier : IsBy s.log.held o row (m - 1)
  pub before : i ≡ inode_of s.log.held o row (m - 1)
  pub room : HasRoom (chain_of o row) s.log.ahead (entries_between i j m)
  pub subject : subject_row s o m ≡ row
  pub stamp : row.stamp + 1 < 2 ^ 64
  pub last : LastInodeStays

pub known : IsByLater → LastInodeStays → (s : StoreFields) (o : ℕ) (i j : Inode) (hand : List (Option Place)) (m : ℕ) (row : Row) → CanTurn s o i j hand m → row_of s.rows o ≡ Some row → Known s o i j m row
known by last s o i j hand m row can there =
    let same : can.row ≡ row = same_Some can.row row (sym can.there ∙ there) in
    let object = can.store.objects o row there in
    let later = can.later in
    let le : s.latest ≤ m - 1 = omega (arith, later) in
    let bound = can.store.stamps o row there in
    let most = can.store.bounded in
    record {
      stands = object.stands;
      earlier = by s.log.held o row s.latest (m - 1) le object.by;
      before = can.before ∙ ap (λ (r : Row). inode_of s.log.held o r s.latest) same ∙ sym (last s.log.held o row s.latest (m - 1) object.by le);
      room = subst (λ (r : Row). HasRoom (chain_of o r) s.log.ahead (entries_between i j m)) same can.room;
      subject = ap (row_or_fresh m) there;
      stamp = omega (arith, bound, most);
      last = last;
    }

-- what is asked of a store as it was passed, of it as it was opened
pub record Asked (s : StoreFields) (o : ℕ) (i j : Inode) (hand : List (Option Place)) (m : ℕ) (row : Row) : Type 0 where
  pub can : CanTurn s o i j hand m
  pub there : row_of s.rows o ≡ Some row
  pub know : Known s o i j m row

pub asked : {T : Type 0} → IsByLater → LastInodeStays → (log : T → Log) (old : Inside T) (v : StoreOf T) (o : ℕ) (i j : Inode) (hand : List (Option Place)) (m : ℕ) (row : Row)
    → seen old ≡ v → CanTurn (fields_of log v) o i j hand m → row_of v.rows o ≡ Some row → Asked (opened log old) o i j hand m row
asked by last log old v o i j hand m row is able here =
    let can = subst (λ (x : StoreOf _). CanTurn (fields_of log x) o i j hand m) (sym is) able in
    let there = subst (λ (x : StoreOf _). row_of x.rows o ≡ Some row) (sym is) here in
    record { can = can; there = there; know = known by last (opened log old) o i j hand m row can there }

-- what was recorded of it: its journal has the entries between the two inodes besides, whose pointers are theirs
pub records_of : (s : StoreFields) (later : Place → Option Stored) (o : ℕ) (i j : Inode) (hand : List (Option Place)) (m : ℕ) (row next : Row)
    → ((i j : Inode) (m : ℕ) → AllByRecursion (λ e. AreOf i j e.triples) (entries_between i j m)) → EntriesAreAt → CanTurn s o i j hand m → row_of s.rows o ≡ Some row → OrderlyStays
    → (row ≡ fresh_row m → IsOrderly later o next m) → (IsOrderly s.log.held o row (m - 1) → i.alive ≡ true → IsOrderly later o next m)
    → IsRow later o next → IsBy later o next m → ((t : ℕ) → inode_of later o next t ≡ (if nat_le m t then j else inode_of s.log.held o row t))
    → entries_of later o next ≡ entries_of s.log.held o row ++ entries_between i j m → next ≡ record row { head = next.head; journal_bytes = next.journal_bytes; head_bytes = next.head_bytes }
    → OnlyJournalChanged o s.log.held later → Records s.log.held later o row next j m
records_of s later o i j hand m row next tell at can there orderly made kept stands by inode entries rest others =
    let same : can.row ≡ row = same_Some can.row row (sym can.there ∙ there) in
    let is : i ≡ inode_of s.log.held o row s.latest = can.before ∙ ap (λ (r : Row). inode_of s.log.held o r s.latest) same in
    let before : PointersHeld s.log.held o i = subst (PointersHeld s.log.held o) (sym is) ((can.store.objects o row there).pointers s.latest) in
    let after = can.later in
    record {
      new = entries_between i j m;
      grows = record {
        entries = entries;
        checkpoint = ap (λ (r : Row). checkpoint_of later o r) rest ∙ same_checkpoint s.log.held later o row.checkpoint (same_checkpoints o s.log.held later (others Checkpoint o refl) (others Pointers o refl));
      };
      told = between_led s.log.held o i j (entries_between i j m) before can.pointers (tell i j m);
      moments = at i j m;
      made = ap (λ (r : Row). r.created) rest;
      row_stands = stands;
      by = by;
      inode = inode;
      orderly = elim can.from [
        | inl fresh ↦ made (sym same ∙ fresh)
        | inr (was, alive) ↦ kept (orderly.later s.log.held o row s.latest (m - 1) (omega (arith, after)) (subst (λ (r : Row). IsOrderly s.log.held o r s.latest) same was)) alive
      ];
      others = others;
    }

-- the stored row is the older one but for its journal, changed once more
changed : (s : StoreFields) (o m : ℕ) (row next : Row) → subject_row s o m ≡ row → (rows : List (ℕ × Row)) → next ≡ record row { head = next.head; journal_bytes = next.journal_bytes; head_bytes = next.head_bytes }
    → ((q : ℕ) → row_of rows q ≡ with_row (row_of s.rows) o (record next { stamp = row.stamp + 1 }) q) → RowChanges s o m rows
changed s o m row next subject rows rest put = record {
  next = record next { stamp = row.stamp + 1 };
  rest = ap (λ (r : Row). record r { stamp = row.stamp + 1 }) rest
      ∙ sym (ap (λ (r : Row). record r { head = next.head; journal_bytes = next.journal_bytes; head_bytes = next.head_bytes; stamp = r.stamp + 1 }) subject);
  put = put;
}

pub turned : ChangesStand → (s later : StoreFields) (o m : ℕ) (i j : Inode) (hand : List (Option Place)) (row next : Row)
    → CanTurn s o i j hand m → row_of s.rows o ≡ Some row → Known s o i j m row → later.latest ≡ m → Records s.log.held later.log.held o row next j m
    → next ≡ record row { head = next.head; journal_bytes = next.journal_bytes; head_bytes = next.head_bytes } → ((q : ℕ) → row_of later.rows q ≡ with_row (row_of s.rows) o (record next { stamp = row.stamp + 1 }) q)
    → TakesPlaces (pushed_blocks (chain_of o row) (entries_between i j m)) s.log later.log → Counts s.log later.log o next → Turns s o m j (blocks_turned s o i j m) later
turned laws s later o m i j hand row next can there know latest records rest put takes counts =
    let later_is = can.later in
    let few : pushed_blocks (chain_of o row) (entries_between i j m) ≤ length s.log.ahead = know.room.blocks in
    let entries = (laws.entry_count i j m).0 in
    let count : length (map entry_length (entries_between i j m)) ≡ length (entries_between i j m) = length-map (entries_between i j m) entry_length in
    let least : 0 < blocks_needed row.head_bytes (map entry_length (entries_between i j m)) = laws.blocks_are_needed row.head_bytes (map entry_length (entries_between i j m)) (omega (arith, count, entries)) in
    subst (λ (r : Row). Turns s o m j (pushed_blocks (chain_of o r) (entries_between i j m)) later) (sym know.subject)
    (recorded laws s later o m (row.stamp + 1) (pushed_blocks (chain_of o row) (entries_between i j m)) row next j hand can.store there later_is latest records can.tidy can.pointers put refl takes (omega (arith, least)) few counts (changed s o m row next know.subject later.rows rest put))

-- ---- the names

-- how often the next row names a place: as often as the row did, and once for each side of a new triple
grown_times : (held later : Place → Option Stored) (o : ℕ) (row next : Row) (new : List EntryFields) → Grows held later o row next new → next.sides ≡ row.sides → of_checkpoints o later ≡ of_checkpoints o held
    → (p : Place) → times_led p (pointers_named later o next) ≡ times_led p (pointers_named held o row) + times_led p (sides_told new)
grown_times held later o row next new grows sides checkpoints p =
    let kept : List (Option Place) = pointers_kept (checkpoint_of held o row) in
    let old : List (Option Place) = sides_told (entries_of held o row) in
    let aside : pointers_aside later o next ≡ pointers_aside held o row = ap (pointers_of_sides later o) sides ∙ same_aside held later o row checkpoints in
    let whole : pointers_named later o next ≡ (kept ++ (old ++ sides_told new)) ++ pointers_aside held o row =
    ap (λ (c : Option CheckpointFields). (pointers_kept c ++ sides_told (entries_of later o next)) ++ pointers_aside later o next) grows.checkpoint
    ∙ ap (λ (told : List (Option Place)). (kept ++ told) ++ pointers_aside later o next) (grown_sides held later o row next new grows)
    ∙ ap (λ (back : List (Option Place)). (kept ++ (old ++ sides_told new)) ++ back) aside in
    let all = ap (times_led p) whole in
    let first = times_joined p (kept ++ (old ++ sides_told new)) (pointers_aside held o row) in
    let second = times_joined p kept (old ++ sides_told new) in
    let third = times_joined p old (sides_told new) in
    let were = times_joined p (kept ++ old) (pointers_aside held o row) in
    let front = times_joined p kept old in
    omega (arith, all, first, second, third, were, front)

-- What was recorded before the names were counted: the row's journal has these entries besides, the last of which lead to the next inode.
pub record Recorded (s : StoreFields) (log : Log) (o : ℕ) (row next : Row) (new : List EntryFields) (j : Inode) (hand : List (Option Place)) (m : ℕ) : Type 0 where
  pub store : IsOpenFor o j hand s
  pub there : row_of s.rows o ≡ Some row
  pub grows : Grows s.log.held log.held o row next new
  pub others : OnlyJournalChanged o s.log.held log.held
  pub inode : inode_of log.held o next m ≡ j
  pub named : log.named ≡ s.log.named
  pub sides : next.sides ≡ row.sides

pub recorded_of : (s : StoreFields) (log : Log) (o : ℕ) (i j : Inode) (hand : List (Option Place)) (m : ℕ) (row next : Row) → CanTurn s o i j hand m → row_of s.rows o ≡ Some row
    → ((t : ℕ) → inode_of log.held o next t ≡ (if nat_le m t then j else inode_of s.log.held o row t))
    → entries_of log.held o next ≡ entries_of s.log.held o row ++ entries_between i j m → next ≡ record row { head = next.head; journal_bytes = next.journal_bytes; head_bytes = next.head_bytes }
    → OnlyJournalChanged o s.log.held log.held → log.named ≡ s.log.named → Recorded s log o row next (entries_between i j m) j hand m
recorded_of s log o i j hand m row next can there inode entries rest others named = record {
  store = can.store;
  there = there;
  grows = record {
    entries = entries;
    checkpoint = ap (λ (r : Row). checkpoint_of log.held o r) rest ∙ same_checkpoint s.log.held log.held o row.checkpoint (same_checkpoints o s.log.held log.held (others Checkpoint o refl) (others Pointers o refl));
  };
  others = others;
  inode = inode m ∙ cond-true (leb m m) j (inode_of s.log.held o row m) (le-leb m m (omega arith));
  named = named;
  sides = ap (λ (r : Row). r.sides) rest;
}

given_itself : (o : ℕ) (hand : List (Option Place)) (p : Place) → times_given o o hand p ≡ times_led p hand
given_itself o hand p = cond-true (o == o) (times_led p hand) 0 (eq-eqb o o refl)

module _ (s : StoreFields) (log : Log) (o : ℕ) (row next : Row) (new : List EntryFields) (j : Inode) (hand : List (Option Place)) (m : ℕ) (is : Recorded s log o row next new j hand m) where
  -- the journal alone was changed, so data has the names that it had
  pub named_still : (q : ℕ) (p : Place) → named_of q log p ≡ named_of q s.log p
  named_still q p = named_alike q s.log log p (ap (λ (view : Place → Option (List ℕ)). view p) (is.others Data q refl)) (ap (λ (named : Place → ℕ). named p) is.named)

  -- what is in hand is data of the object
  hand_held : (p : Place) → Contains hand (Some p) → IsSome (of_kind Data o log.held p)
  hand_held p there =
      let counted = is.store.counted o row is.there p in
      let given = given_itself o hand p in
      let some = contained_times p hand there in
      let same = named_still o p in
      there_named o log p (omega (arith, counted, given, some, same))

  pub hand_led : All (IsLed log.held o) hand
  hand_led = told_led log.held o hand hand_held

  grown_here : (p : Place) → times_led p (pointers_named log.held o next) ≡ times_led p (pointers_named s.log.held o row) + times_led p (sides_told new)
  grown_here p = grown_times s.log.held log.held o row next new is.grows is.sides (same_checkpoints o s.log.held log.held (is.others Checkpoint o refl) (is.others Pointers o refl)) p

  -- each data block of the object has a name left
  still_named : OnePlace → (p : Place) → IsSome (of_kind Data o log.held p) → 0 < (times_led p (sides_told new) + named_of o log p) - times_led p hand
  still_named one p some =
      let counted = is.store.counted o row is.there p in
      let given = given_itself o hand p in
      let same = named_still o p in
      let was : IsSome (of_kind Data o s.log.held p) = subst (λ (view : Place → Option (List ℕ)). IsSome (view p)) (is.others Data o refl) some in
      let least = named_there o s.log p is.store.names was in
      elim (cases_lt 0 (times_led p hand)) [
        | inl in_hand ↦
            let leads = is.store.led p (times_contained one p hand in_hand) in
            let told = contained_times p (pointers_of log.held o next) (inode_told log.held o next m leads.0 p (ap (λ (k : Inode). pointer_at k leads.0) is.inode ∙ leads.1)) in
            let parts = times_joined p (pointers_of log.held o next) (pointers_aside log.held o next) in
            let grown = grown_here p in
            omega (arith, counted, given, same, told, parts, grown)
        | inr none ↦ omega (arith, counted, given, same, least, none)
      ]

  pub turned_held : (after : Log) → OnePlace → Recounts o log (sides_told new) hand after → after.held ≡ log.held
  turned_held after one counts = recounts_all o log after (sides_told new) hand counts (still_named one)

  pub turned_counts : (after : Log) → OnePlace → Recounts o log (sides_told new) hand after → Counts s.log after o next
  turned_counts after one counts = record {
    names = counts.names;
    here = λ p.
        let now = counts.here p in
        let was = named_still o p in
        let counted = is.store.counted o row is.there p in
        let given = given_itself o hand p in
        let grown = grown_here p in
        let here : times_led p (pointers_named after.held o next) ≡ times_led p (pointers_named log.held o next) = ap (λ (view : Place → Option Stored). times_led p (pointers_named view o next)) (turned_held after one counts) in
        omega (arith, now, was, counted, given, grown, here);
    beside = λ q p beside. counts.beside q p beside ∙ named_still q p;
    few = subst (λ (sides : List Side). length sides ≤ SIDES) (sym is.sides) (is.store.few o row is.there);
  }

-- the pointers of the new triples refer to data, since both inodes' do
pub turned_led : (s : StoreFields) (log : Log) (o : ℕ) (i j : Inode) (hand : List (Option Place)) (m : ℕ) (row next : Row) → ((i j : Inode) (m : ℕ) → AllByRecursion (λ e. AreOf i j e.triples) (entries_between i j m)) → CanTurn s o i j hand m → row_of s.rows o ≡ Some row
    → OnlyJournalChanged o s.log.held log.held → All (IsLed log.held o) (sides_told (entries_between i j m))
turned_led s log o i j hand m row next tell can there others =
    let same : can.row ≡ row = same_Some can.row row (sym can.there ∙ there) in
    let is : i ≡ inode_of s.log.held o row s.latest = can.before ∙ ap (λ (r : Row). inode_of s.log.held o r s.latest) same in
    let before : PointersHeld s.log.held o i = subst (PointersHeld s.log.held o) (sym is) ((can.store.objects o row there).pointers s.latest) in
    leads_later s.log.held log.held o (sides_told (entries_between i j m)) (λ p some. subst (λ (view : Place → Option (List ℕ)). IsSome (view p)) (sym (others Data o refl)) some)
    (between_led s.log.held o i j (entries_between i j m) before can.pointers (tell i j m))

-- ---- room for names

-- how many names a place has while a row isn't in order yet
pub open_few : (s : StoreFields) (o : ℕ) (j : Inode) (hand : List (Option Place)) → IsOpenFor o j hand s → (p : Place) → s.log.named p ≤ ROW_POINTERS + OBJECT_BLOCKS
open_few s o j hand store p = names_few s.log s.rows (ROW_POINTERS + OBJECT_BLOCKS) store.names store.nothing (λ q row e r.
    let counted = store.counted q row e r in
    let few = times_few r (pointers_named s.log.held q row) in
    let most = pointers_few s.log.held q row s.latest (store.objects q row e) (store.few q row e) in
    let given : times_given o q hand r ≤ length hand = given_few r (o == q) in
    let short = store.short in
    omega (arith, counted, few, most, given, short))
    p
  where
    given_few : (r : Place) (b : Bool) → cond b (times_led r hand) 0 ≤ length hand
    given_few r true = times_few r hand
    given_few r false = omega arith
