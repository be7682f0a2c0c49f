-- The steps that a change of an object is made of: its data is appended, its row is added, its journal is written.
use Rattle.std.proofs.Common.{◌≡◌, ℕ, ◌+◌, ◌<◌, ◌≤◌, ◌==◌, ◌&&◌, ◌/◌, ◌%◌, ◌++◌, leb, Bool, true, false, cond, List, [], ◌∷◌, length, Option, Some, None, IsSome, refl, sym, ap, subst, ◌∙◌, inl, inr, arith}
use Rattle.std.specs.Prelude.{is_some}
use Rattle.std.specs.List.{AllByRecursion}
use Rattle.std.proofs.lemmas.Bool.{cases_Bool, cond-true, cond-false, and_right, eqb-true, eq-eqb, ne_eqb, false≢true}
use Rattle.std.proofs.lemmas.List.Elements.{All-nil}
use Rattle.std.proofs.lemmas.Option.{none-some, same_Some}
use Rattle.s4_types.specs.Pointer.{Place}
use Rattle.s4_types.specs.declared.limits.TheConstants.{SIDES}
use Rattle.s4_types.specs.declared.versions.Version.{Version}
use Rattle.s4_types.specs.declared.versions.Version.TheVariants.{Absent}
use Rattle.block_log.specs.Taken.{TakesPlaces}
use Rattle.block_log.specs.Log.{Log, Stored, same_kind}
use Rattle.block_log.specs.declared.kinds.BlockKind.TheVariants.{Journal, Checkpoint, Data, Pointers}
use Rattle.codec.specs.declared.inodes.Inode.{Inode}
use Rattle.codec.specs.Entry.{EntryFields}
use Rattle.undo_redo.specs.Runs.{blank, AllAt}
use Rattle.journal_chain.specs.Chain.{OnlyJournalChanged}
use Rattle.inode.specs.Contents.{byte_in, byte_of, contents_of, meaning}
use Rattle.inode.specs.Tidiness.{Tidy, PointersHeld}
use Rattle.inode.specs.Growth.{GrowsBy}
use Rattle.inode.specs.Laws.{OnlyItsBlocksMatter}
use Rattle.checkpoint.proofs.OwnBlocks.{none_seen}
use Rattle.object_map.specs.declared.map.Row.{Row}
use Rattle.object_map.specs.declared.sides.Side.{Side}
use Rattle.object_map.specs.Rows.{row_of, with_row, fresh_row}
use Rattle.time_read.specs.Rows.{IsRow, IsSide, inode_of}
use Rattle.version_store.proofs.Spending.{sum_stays}
use Rattle.version_store.specs.Store.{StoreFields, IsStore, IsObject, IsNamedBy, HasNothing, named_of, pointers_aside, pointers_named, pointers_of, sides_told, times_led, IsLed}
use Rattle.time_read.specs.Orderly.{IsOrderly}
use Rattle.time_read.proofs.Staying.{same_entries}
use Rattle.row_changes.specs.Recent.{IsBy}
use Rattle.version_store.specs.Versions.{inode_by, version_by, version_in}
use Rattle.version_store.specs.Taking.{RowChanges, IsAboveAll}
use Rattle.version_store.specs.private.Turning.{IsOpenFor, Turns, times_given}
use Rattle.version_store.specs.private.Recounting.{Counts}
use Rattle.version_store.specs.private.Below.{ChangesStand, OnePlace, OrderlyStays, RowStays, RowInodeStays, IsByStays, IsByLater, FreshRowStands, FreshRowIsBy, FreshInode, BlankCount, BlankHoles}
use Rattle.version_store.proofs.Frames.{DataStays, data_there, data_agree, data_pointers, stays_object, growth_stays, journal_stays, version_by_stays}
use Rattle.version_store.proofs.Telling.{Leads, Grows, leads_later, grown_leads, fresh_pointers}
use Rattle.version_store.proofs.Named.{named_none}
use Rattle.version_store.proofs.Handed.{IsInHand, grown_counted, none_contained}
use Rattle.version_store.proofs.Changed.{OthersKeep, Changes, own_within, some_keeps, some_stays, journal_others, changed_store, changed_versions}
use Rattle.version_store.proofs.Across.{IsAcross, kept_across, changed_across, added_across, above_has_none}

-- ---- rows

pub row_here : (rows : ℕ → Option Row) (o : ℕ) (row : Row) → with_row rows o row o ≡ Some row
row_here rows o row = cond-true (o == o) (Some row) (rows o) (eq-eqb o o refl)

pub row_beside : (rows : ℕ → Option Row) (o q : ℕ) (row : Row) → (o == q) ≡ false → with_row rows o row q ≡ rows q
row_beside rows o q row other = cond-false (o == q) (Some row) (rows q) other

-- an object with a row isn't one without
pub other_object : (rows : ℕ → Option Row) (o q : ℕ) → IsSome (rows o) → rows q ≡ None → (o == q) ≡ false
other_object rows o q there none = ne_eqb o q (λ (e : o ≡ q). false≢true (sym (ap is_some (ap rows e ∙ none)) ∙ there))

-- ---- data is appended

pub grown_store : OnePlace → OrderlyStays → RowStays → RowInodeStays → IsByStays → OnlyItsBlocksMatter → (s : StoreFields) (log : Log) (object : ℕ) (blocks : List (List ℕ)) (j : Inode) (hand : List (Option Place))
    → GrowsBy object blocks s.log log → IsInHand s.log log j hand → PointersHeld log.held object j → IsSome (row_of s.rows object) → IsStore s → IsOpenFor object j hand (record s { log = log })
grown_store one orderly stands same by matter s log object blocks j hand grows in_hand pointers there store =
    let sum = sum_stays (length blocks) s.log log grows.takes grows.room in
    let more : log.spent ≡ length blocks + s.log.spent = grows.takes.spent in
    let across : IsAcross log.held s.rows = kept_across s.rows s.log.held log.held (λ q r e. same_entries s.log.held log.held q r (growth_stays object blocks s.log log q grows).journal) (record { ascending = store.ascending; apart = store.apart }) in
    record {
      objects = λ o row e. stays_object stands same by matter o s.log.held log.held row s.latest (growth_stays object blocks s.log log o grows) (store.objects o row e);
      orderly = λ o row other e.
          let stays = growth_stays object blocks s.log log o grows in
          orderly.blocks s.log.held log.held o s.latest row stays.journal stays.checkpoints (store.orderly o row e);
      names = in_hand.names;
      counted = grown_counted one s log object blocks j hand grows in_hand pointers store;
      few = store.few;
      led = in_hand.led;
      short = in_hand.short;
      nothing = λ o none kind p. grows.others kind o p (and_right (same_kind kind Data) (object == o) (other_object (row_of s.rows) object o there none)) ∙ store.nothing o none kind p;
      stamps = λ o row e. let bound = store.stamps o row e in omega (arith, more, bound);
      bounded = let bound = store.bounded in omega (arith, sum, bound);
      ascending = across.ascending;
      apart = across.apart;
    }

pub grown_versions : RowInodeStays → OnlyItsBlocksMatter → (s : StoreFields) (log : Log) (object : ℕ) (blocks : List (List ℕ)) → GrowsBy object blocks s.log log → IsStore s
    → (o t : ℕ) → version_in (record s { log = log }) o t ≡ version_in s o t
grown_versions same matter s log object blocks grows store o t =
    version_by_stays same matter o t s.latest s.log.held log.held (row_of s.rows o) (growth_stays object blocks s.log log o grows) (store.objects o)

-- ---- a row is added

blank_byte : (contents : Place → List ℕ) (m n : ℕ) → BlankHoles → byte_of contents (blank m) n ≡ 0
unfolding byte_of
blank_byte contents m n holes = ap (λ (slot : Option Place). byte_in contents slot (n % 512)) (holes m (n / 512))

blank_size : (m : ℕ) → (blank m).size ≡ 0
unfolding blank
blank_size m = refl

pub blank_tidy : BlankCount → BlankHoles → (contents : Place → List ℕ) (m : ℕ) → Tidy contents (blank m)
blank_tidy count holes contents m = record {
  count = count m;
  size = let none = blank_size m in omega (arith, none);
  holes = λ k le. holes m k;
  zeros = λ n le. blank_byte contents m n holes;
}

blank_pointers : BlankHoles → (held : Place → Option Stored) (o m : ℕ) → PointersHeld held o (blank m)
blank_pointers holes held o m k p at = absurd (none-some p (sym (holes m k) ∙ at))

pub blank_means : (contents : Place → List ℕ) (m : ℕ) → meaning contents (blank m) ≡ Absent
unfolding blank
blank_means contents m = refl

fresh_object : FreshRowStands → FreshRowIsBy → FreshInode → IsByLater → BlankCount → BlankHoles → (held : Place → Option Stored) (o m latest : ℕ) → 1 ≤ o → HasNothing held o → IsObject held o (fresh_row m) latest
fresh_object stands by fresh later count holes held o m latest numbered nothing = record {
  stands = stands held o m numbered (λ p. nothing Journal p) (λ p. none_seen o (held p) (nothing Checkpoint p) (nothing Pointers p));
  by = later held o (fresh_row m) 0 latest (omega arith) (by held o m);
  led = subst (Leads held o) (sym (fresh_pointers held o m)) (All-nil (IsLed held o));
  tidy = λ t. subst (Tidy (contents_of held)) (sym (fresh held o m t)) (blank_tidy count holes (contents_of held) m);
  pointers = λ t. subst (PointersHeld held o) (sym (fresh held o m t)) (blank_pointers holes held o m);
}

-- what holds of the row that was put, and of each other row, holds of each
pub row_cases : (rows after : ℕ → Option Row) (o : ℕ) (row : Row) → ((q : ℕ) → after q ≡ with_row rows o row q) → (P : ℕ → Row → Type 0) → P o row → ((q : ℕ) (r : Row) → (o == q) ≡ false → rows q ≡ Some r → P q r) → (q : ℕ) (r : Row) → after q ≡ Some r → P q r
row_cases rows after o row put P here others q r e = elim (cases_Bool (o == q)) [
  | inl is ↦
      let same : o ≡ q = eqb-true o q is in
      let found : row ≡ r = same_Some row r (sym (cond-true (o == q) (Some row) (rows q) is) ∙ sym (put q) ∙ e) in
      subst (λ (n : ℕ). P n r) same (subst (P o) found here)
  | inr other ↦ others q r other (sym (row_beside rows o q row other) ∙ sym (put q) ∙ e)
]

pub none_cases : (rows after : ℕ → Option Row) (o : ℕ) (row : Row) → ((q : ℕ) → after q ≡ with_row rows o row q) → (q : ℕ) → after q ≡ None → ((o == q) ≡ false) × (rows q ≡ None)
none_cases rows after o row put q none = elim (cases_Bool (o == q)) [
  | inl is ↦ absurd (none-some row (sym none ∙ put q ∙ cond-true (o == q) (Some row) (rows q) is))
  | inr other ↦ (other, sym (row_beside rows o q row other) ∙ sym (put q) ∙ none)
]

-- the row of an object that was just made names nothing
fresh_named : (held : Place → Option Stored) (o m : ℕ) → pointers_named held o (fresh_row m) ≡ []
fresh_named held o m = ap (λ (slots : List (Option Place)). slots ++ pointers_aside held o (fresh_row m)) (fresh_pointers held o m)

none_given : (o q : ℕ) (p : Place) → times_given o q [] p ≡ 0
none_given o q p = either_none (o == q)
  where
    either_none : (b : Bool) → cond b (times_led p []) 0 ≡ 0
    either_none true = refl
    either_none false = refl

none_besides : (n m : ℕ) → m ≡ 0 → n ≡ n + m
none_besides n m none = omega (arith, none)

pub added_store : FreshRowStands → FreshRowIsBy → FreshInode → IsByLater → BlankCount → BlankHoles → (s : StoreFields) (rows : List (ℕ × Row)) (object m : ℕ) (j : Inode)
    → ((q : ℕ) → row_of rows q ≡ with_row (row_of s.rows) object (fresh_row m) q) → 1 ≤ object → IsAboveAll s object → s.latest < m → IsStore s → IsOpenFor object j [] (record s { rows = rows })
added_store stands by fresh later count holes s rows object m j put numbered above after store =
    let none : row_of s.rows object ≡ None = above_has_none s object above in
    let across = added_across s rows object m above put (λ q r e. let made = (store.orderly q r e).made.1 in omega (arith, made, after)) (record { ascending = store.ascending; apart = store.apart }) in
    record {
      objects = row_cases (row_of s.rows) (row_of rows) object (fresh_row m) put (λ q r. IsObject s.log.held q r s.latest)
          (fresh_object stands by fresh later count holes s.log.held object m s.latest numbered (store.nothing object none))
          (λ q r other e. store.objects q r e);
      orderly = λ q r other e. store.orderly q r (sym (row_beside (row_of s.rows) object q (fresh_row m) other) ∙ sym (put q) ∙ e);
      names = store.names;
      counted = λ q r e p. row_cases (row_of s.rows) (row_of rows) object (fresh_row m) put (λ q r. (p : Place) → named_of q s.log p ≡ times_led p (pointers_named s.log.held q r))
          (λ p. named_none object s.log p (ap is_some (store.nothing object none Data p)) ∙ sym (ap (times_led p) (fresh_named s.log.held object m)))
          (λ q r other e p. store.counted q r e p)
          q r e p
          ∙ none_besides (times_led p (pointers_named s.log.held q r)) (times_given object q [] p) (none_given object q p);
      few = row_cases (row_of s.rows) (row_of rows) object (fresh_row m) put (λ q r. length r.sides ≤ SIDES) (omega arith) (λ q r other e. store.few q r e);
      led = λ p there. absurd (none_contained p there);
      short = omega arith;
      nothing = λ o gone. store.nothing o (none_cases (row_of s.rows) (row_of rows) object (fresh_row m) put o gone).1;
      stamps = row_cases (row_of s.rows) (row_of rows) object (fresh_row m) put (λ q r. r.stamp ≤ s.log.spent)
          (omega arith)
          (λ q r other e. store.stamps q r e);
      bounded = store.bounded;
      ascending = across.ascending;
      apart = across.apart;
    }

pub added_versions : FreshInode → (s : StoreFields) (rows : List (ℕ × Row)) (object m : ℕ) → ((q : ℕ) → row_of rows q ≡ with_row (row_of s.rows) object (fresh_row m) q) → row_of s.rows object ≡ None
    → (o t : ℕ) → version_in (record s { rows = rows }) o t ≡ version_in s o t
added_versions fresh s rows object m put none o t =
    let version : Option Row → Version = λ row. version_by s.log.held (inode_by s.log.held o t row) in
    elim (cases_Bool (object == o)) [
      | inl is ↦
          let same : object ≡ o = eqb-true object o is in
          ap version (put o ∙ cond-true (object == o) (Some (fresh_row m)) (row_of s.rows o) is)
          ∙ ap (meaning (contents_of s.log.held)) (fresh s.log.held o m t)
          ∙ blank_means (contents_of s.log.held) m
          ∙ sym (ap version (ap (row_of s.rows) (sym same) ∙ none))
      | inr other ↦ ap version (put o ∙ row_beside (row_of s.rows) object o (fresh_row m) other)
    ]

-- ---- a journal is written

-- what was recorded: the object's next row stands, its inode is another one from a moment on, and its journal alone was changed
pub record Records (held later : Place → Option Stored) (o : ℕ) (row next : Row) (i : Inode) (m : ℕ) : Type 0 where
  pub new : List EntryFields
  pub grows : Grows held later o row next new
  pub told : Leads held o (sides_told new)
  pub moments : AllAt m new
  pub made : next.created ≡ row.created
  pub row_stands : IsRow later o next
  pub by : IsBy later o next m
  pub inode : (t : ℕ) → inode_of later o next t ≡ cond (leb m t) i (inode_of held o row t)
  pub orderly : IsOrderly later o next m
  pub others : OnlyJournalChanged o held later

-- stamps are told of nothing but themselves
stamped_sides : (held : Place → Option Stored) (o : ℕ) (row : Row) (n : ℕ) (sides : List Side) → AllByRecursion (IsSide held o row) sides → AllByRecursion (IsSide held o (record row { stamp = n })) sides
unfolding inode_of
stamped_sides held o row n [] all = tt
stamped_sides held o row n (side ∷ sides) all = (record { told = all.0.told; older = all.0.older }, stamped_sides held o row n sides all.1)

pub stamped_row : (held : Place → Option Stored) (o : ℕ) (row : Row) (n : ℕ) → IsRow held o row → IsRow held o (record row { stamp = n })
unfolding inode_of
stamped_row held o row n r = record {
  object = r.object;
  chain = r.chain;
  last = r.last;
  run = r.run;
  groups = r.groups;
  checkpoint = r.checkpoint;
  sides = stamped_sides held o row n row.sides r.sides;
  ascending = r.ascending;
  only = r.only;
  created = r.created;
}

pub stamped_inode : (held : Place → Option Stored) (o : ℕ) (row : Row) (n t : ℕ) → inode_of held o (record row { stamp = n }) t ≡ inode_of held o row t
unfolding inode_of
stamped_inode held o row n t = refl

journal_data : (o : ℕ) (held later : Place → Option Stored) → OnlyJournalChanged o held later → DataStays o held later
journal_data o held later only p there = ap (λ (view : Place → Option (List ℕ)). view p) (only Data o refl)

-- what holds of the next inode and of those before holds of each
either : (P : Inode → Type 0) (m t : ℕ) (i j : Inode) → P i → P j → P (cond (leb m t) i j)
either P m t i j p q = elim (cases_Bool (leb m t)) [
  | inl is ↦ subst P (sym (cond-true (leb m t) i j is)) p
  | inr less ↦ subst P (sym (cond-false (leb m t) i j less)) q
]

recorded_object : OnlyItsBlocksMatter → (held later : Place → Option Stored) (o : ℕ) (row next : Row) (i : Inode) (m latest n : ℕ) → Records held later o row next i m → IsObject held o row latest
    → Tidy (contents_of held) i → PointersHeld held o i → IsObject later o (record next { stamp = n }) m
recorded_object matter held later o row next i m latest n records object tidy pointers =
    let stays = journal_data o held later records.others in
    let there = data_there o held later stays in
    let tidy_later : (j : Inode) → PointersHeld held o j → Tidy (contents_of held) j → Tidy (contents_of later) j = λ j leads t. (matter (contents_of held) (contents_of later) j (data_agree o held later j stays leads)).1 t in
    let is : (t : ℕ) → inode_of later o (record next { stamp = n }) t ≡ cond (leb m t) i (inode_of held o row t) = λ t. stamped_inode later o next n t ∙ records.inode t in
    record {
      stands = stamped_row later o next n records.row_stands;
      by = record { entries = records.by.entries; checkpoint = records.by.checkpoint };
      led = grown_leads held later o row next records.new records.grows (leads_later held later o (pointers_of held o row) there object.led) (leads_later held later o (sides_told records.new) there records.told);
      tidy = λ t. subst (Tidy (contents_of later)) (sym (is t)) (either (Tidy (contents_of later)) m t i (inode_of held o row t) (tidy_later i pointers tidy) (tidy_later (inode_of held o row t) (object.pointers t) (object.tidy t)));
      pointers = λ t. subst (PointersHeld later o) (sym (is t)) (either (PointersHeld later o) m t i (inode_of held o row t) (data_pointers o held later i stays pointers) (data_pointers o held later (inode_of held o row t) stays (object.pointers t)));
    }

-- what is in hand is of one object
alone_counted : (s : StoreFields) (o : ℕ) (i : Inode) (hand : List (Option Place)) (q : ℕ) (r : Row) → (o == q) ≡ false → row_of s.rows q ≡ Some r → IsOpenFor o i hand s → IsNamedBy q s.log (pointers_named s.log.held q r)
alone_counted s o i hand q r other e store p =
    let is = store.counted q r e p in
    let none : times_given o q hand p ≡ 0 = cond-false (o == q) (times_led p hand) 0 other in
    omega (arith, is, none)

-- what holds across rows is kept: the object's chain has entries of the moment besides, and no other chain is changed
recorded_across : (s later : StoreFields) (o : ℕ) (row next : Row) (i : Inode) (hand : List (Option Place)) (m n : ℕ) → Records s.log.held later.log.held o row next i m → row_of s.rows o ≡ Some row → IsOpenFor o i hand s → s.latest < m
    → ((q : ℕ) → row_of later.rows q ≡ with_row (row_of s.rows) o (record next { stamp = n }) q) → IsAcross later.log.held later.rows
recorded_across s later o row next i hand m n records there store before put =
    changed_across s.rows later.rows s.log.held later.log.held o row (record next { stamp = n }) m s.latest records.new there put records.made records.grows.entries records.moments before
    (λ q r e. (store.objects q r e).by.entries) (λ q r other e. same_entries s.log.held later.log.held q r (journal_stays o q s.log.held later.log.held records.others other).journal)
    (record { ascending = store.ascending; apart = store.apart })

open_others : (s : StoreFields) (o : ℕ) (i : Inode) (hand : List (Option Place)) → IsOpenFor o i hand s → OthersKeep s o
open_others s o i hand store = record {
  each = λ q r other there. record { object = store.objects q r there; orderly = store.orderly q r other there; counted = alone_counted s o i hand q r other there store; few = store.few q r there; stamp = store.stamps q r there };
  nothing = λ q other none. store.nothing q none;
  bounded = store.bounded;
}

recorded_changes : ChangesStand → (s later : StoreFields) (o m n count : ℕ) (row next : Row) (i : Inode) (hand : List (Option Place))
    → IsOpenFor o i hand s → row_of s.rows o ≡ Some row → s.latest < m → later.latest ≡ m → Records s.log.held later.log.held o row next i m → Tidy (contents_of s.log.held) i → PointersHeld s.log.held o i
    → ((q : ℕ) → row_of later.rows q ≡ with_row (row_of s.rows) o (record next { stamp = n }) q) → n ≡ row.stamp + 1
    → TakesPlaces count s.log later.log → 1 ≤ count → count ≤ length s.log.ahead → Counts s.log later.log o next → Changes s later o count (Some (record next { stamp = n }))
recorded_changes rest s later o m n count row next i hand store there before latest records tidy pointers put stamp takes some room counts = record {
  put = put;
  here = some_keeps later o (record next { stamp = n }) (record {
    object = subst (IsObject later.log.held o (record next { stamp = n })) (sym latest) (recorded_object rest.meaning s.log.held later.log.held o row next i m s.latest n records (store.objects o row there) tidy pointers);
    orderly = subst (IsOrderly later.log.held o (record next { stamp = n })) (sym latest) (rest.orderly.stamp later.log.held o m n next records.orderly);
    counted = counts.here;
    few = counts.few;
    stamp = let bound = store.stamps o row there in let more : later.log.spent ≡ count + s.log.spent = takes.spent in omega (arith, bound, stamp, more, some);
  });
  gone = some_stays (record next { stamp = n }) (HasNothing later.log.held o);
  names = counts.names;
  beside = counts.beside;
  others = journal_others o s.log.held later.log.held records.others;
  takes = takes;
  sum = sum_stays count s.log later.log takes room;
  latest = omega (arith, before, latest);
  across = recorded_across s later o row next i hand m n records there store before put;
}

version_of_inode : (held later : Place → Option Stored) (m t : ℕ) (i j : Inode) → OnlyItsBlocksMatter → (o : ℕ) → DataStays o held later → PointersHeld held o i → PointersHeld held o j
    → meaning (contents_of later) (cond (leb m t) i j) ≡ cond (leb m t) (meaning (contents_of held) i) (meaning (contents_of held) j)
version_of_inode held later m t i j matter o stays i_leads j_leads = elim (cases_Bool (leb m t)) [
  | inl is ↦ ap (meaning (contents_of later)) (cond-true (leb m t) i j is)
      ∙ (matter (contents_of held) (contents_of later) i (data_agree o held later i stays i_leads)).0
      ∙ sym (cond-true (leb m t) (meaning (contents_of held) i) (meaning (contents_of held) j) is)
  | inr less ↦ ap (meaning (contents_of later)) (cond-false (leb m t) i j less)
      ∙ (matter (contents_of held) (contents_of later) j (data_agree o held later j stays j_leads)).0
      ∙ sym (cond-false (leb m t) (meaning (contents_of held) i) (meaning (contents_of held) j) less)
]

recorded_versions : ChangesStand → (s later : StoreFields) (o m n count : ℕ) (row next : Row) (i : Inode) (hand : List (Option Place)) → IsOpenFor o i hand s → row_of s.rows o ≡ Some row
    → Records s.log.held later.log.held o row next i m → PointersHeld s.log.held o i → Changes s later o count (Some (record next { stamp = n }))
    → (q t : ℕ) → version_in later q t ≡ cond (o == q && leb m t) (meaning (contents_of s.log.held) i) (version_in s q t)
recorded_versions rest s later o m n count row next i hand store there records pointers changes q t =
    changed_versions rest s later o count (Some (record next { stamp = n })) (open_others s o i hand store) changes q t
    ∙ ap (λ (v : Version). cond (o == q) v (version_in s q t))
    (ap (meaning (contents_of later.log.held)) (stamped_inode later.log.held o next n t ∙ records.inode t)
    ∙ version_of_inode s.log.held later.log.held m t i (inode_of s.log.held o row t) rest.meaning o (journal_data o s.log.held later.log.held records.others) pointers ((store.objects o row there).pointers t)
    ∙ sym (ap (λ (r : Option Row). cond (leb m t) (meaning (contents_of s.log.held) i) (version_by s.log.held (inode_by s.log.held o t r))) there))
    ∙ own_within o q (leb m t) (meaning (contents_of s.log.held) i) (λ k. version_in s k t)

-- the whole step
pub recorded : ChangesStand → (s later : StoreFields) (o m n count : ℕ) (row next : Row) (i : Inode) (hand : List (Option Place))
    → IsOpenFor o i hand s → row_of s.rows o ≡ Some row → s.latest < m → later.latest ≡ m → Records s.log.held later.log.held o row next i m → Tidy (contents_of s.log.held) i → PointersHeld s.log.held o i
    → ((q : ℕ) → row_of later.rows q ≡ with_row (row_of s.rows) o (record next { stamp = n }) q) → n ≡ row.stamp + 1
    → TakesPlaces count s.log later.log → 1 ≤ count → count ≤ length s.log.ahead → Counts s.log later.log o next → RowChanges s o m later.rows → Turns s o m i count later
recorded rest s later o m n count row next i hand store there before latest records tidy pointers put stamp takes some room counts changes =
    let changed = recorded_changes rest s later o m n count row next i hand store there before latest records tidy pointers put stamp takes some room counts in
    record {
      store = changed_store rest s later o count (Some (record next { stamp = n })) (open_others s o i hand store) changed;
      versions = recorded_versions rest s later o m n count row next i hand store there records pointers changed;
      latest = latest;
      row = changes;
      others = records.others;
      takes = takes;
    }
