-- What the replacement of an object's journal leaves of a whole store.
use Rattle.std.proofs.Common.{◌≡◌, inl, inr, ℕ, ◌+◌, ◌<◌, ◌≤◌, ◌==◌, ◌||◌, ◌++◌, true, cond, List, [], ◌∷◌, length, Option, Some, IsSome, MatchOption, refl, sym, ap, subst, ◌∙◌, arith}
use Rattle.std.specs.List.{Contains, AllByRecursion}
use Rattle.std.proofs.lemmas.Bool.{and_right}
use Rattle.std.proofs.lemmas.List.{append-nil}
use Rattle.std.proofs.lemmas.List.Elements.{All-weaker, All-contains_itself, Contains-append_left, Contains-append_right}
use Rattle.s4_types.specs.Pointer.{Place}
use Rattle.s4_types.specs.declared.versions.Version.{Version}
use Rattle.s4_types.specs.declared.limits.TheConstants.{SIDES}
use Rattle.block_log.specs.Taken.{TakesPlaces}
use Rattle.block_log.specs.Log.{Log, NamesAreOfData, Stored, of_kind, same_kind, seen_as}
use Rattle.block_log.specs.declared.kinds.BlockKind.TheVariants.{Journal, Data}
use Rattle.codec.specs.Fields.{◌>>=◌}
use Rattle.codec.specs.Checkpoint.{pointer_at, checkpoint_rules}
use Rattle.codec.specs.Entry.{EntryFields}
use Rattle.codec.specs.declared.inodes.Inode.{Inode}
use Rattle.undo_redo.specs.Runs.{AllBy, Run, undone_all, entries_by, last_moment}
use Rattle.checkpoint.specs.Held.{is_checkpoint_kind, checkpoint_held}
use Rattle.inode.specs.Contents.{contents_of, meaning}
use Rattle.inode.specs.Tidiness.{Tidy, PointersHeld, AgreeAt}
use Rattle.inode.specs.Laws.{OnlyItsBlocksMatter}
use Rattle.object_map.specs.declared.map.Row.{Row}
use Rattle.object_map.specs.declared.sides.Side.{Side}
use Rattle.object_map.specs.Objects.{with_value}
use Rattle.object_map.specs.Rows.{row_of, with_row}
use Rattle.undo_redo.proofs.RunLaws.{all_by_later}
use Rattle.time_read.specs.Rows.{entries_of, checkpoint_of, inode_of}
use Rattle.time_read.specs.Orderly.{IsOrderly, IsFromTo}
use Rattle.time_read.proofs.Staying.{same_entries}
use Rattle.version_store.specs.Store.{HasNothing, IsNamedBy, StoreFields, IsStore, IsObject, IsLed, named_of, pointers_aside, pointers_kept, pointers_named, pointers_of, pointers_of_sides, sides_told, times_led}
use Rattle.version_store.specs.Versions.{inode_in, version_in}
use Rattle.version_store.specs.Checkpointing.{last_entry}
use Rattle.version_store.specs.Replacing.{IsMomentOf, OtherObjectsStay, CanReplace, IsReplaced, inode_led, pointers_told}
use Rattle.row_changes.specs.Rewritten.{OnlyMetadataChanged, rewritten_blocks}
use Rattle.version_store.specs.private.Below.{ChangesStand, OnePlace, IsByLater}
use Rattle.version_store.specs.private.Recounting.{Counts, Recounts}
use Rattle.version_store.specs.private.Replacing.{Rewrites, Replaces, AllAreDone, RunsEnd}
use Rattle.version_store.proofs.Frames.{same_bytes}
use Rattle.version_store.proofs.Telling.{Leads, redone_cases, undone_cases, by_told, slot_there, led_there}
use Rattle.version_store.proofs.Steps.{stamped_row, stamped_inode}
use Rattle.version_store.proofs.Spending.{sum_stays}
use Rattle.version_store.proofs.Across.{renewed_across}
use Rattle.version_store.proofs.CheckpointSteps.{next_store, keeps_rules, holes_all, some_place}
use Rattle.version_store.proofs.Named.{contained_times, named_alike, named_there, recounts_data, recounts_kept, there_named, times_contained}
use Rattle.version_store.proofs.Changed.{Changes, some_keeps, some_stays, changed_inodes, changed_store, changed_versions, store_others}
use Rattle.version_store.proofs.Recounted.{pointer_is_held}

-- ---- what is asked of the checkpoint

last_from_to : (low high given : ℕ) (entries : List EntryFields) → IsFromTo low high given → AllByRecursion (λ e. IsFromTo low high e.moment) entries → IsFromTo low high (last_moment given entries)
last_from_to low high given [] within all = within
last_from_to low high given (e ∷ entries) within all = last_from_to low high e.moment entries all.0 all.1

pub last_within : (low high : ℕ) (entries : List EntryFields) → 0 < length entries → AllByRecursion (λ e. IsFromTo low high e.moment) entries → IsFromTo low high (last_moment 0 entries)
last_within low high [] some all = absurd (omega (arith, some))
last_within low high (e ∷ entries) some all = last_from_to low high e.moment entries all.0 all.1

-- after all entries the inode is the present one
pub led_last : AllAreDone → RunsEnd → (present : Inode) (entries : List EntryFields) (t : ℕ) → Run (undone_all entries present) entries present → AllBy t entries → inode_led present entries t ≡ present
led_last done end present entries t run by = done (undone_all entries present) entries t by ∙ sym (end (undone_all entries present) present entries run)

-- what is known where a journal can be replaced: the checkpoint's moment is one from the making to the last change, and its rules hold
pub record Known (s : StoreFields) (o : ℕ) (row : Row) (present : Inode) (entries : List EntryFields) (m : ℕ) : Type 0 where
  pub object : IsObject s.log.held o row s.latest
  pub orderly : IsOrderly s.log.held o row s.latest
  pub within : IsFromTo row.created s.latest m
  pub by : AllBy m entries
  pub last : inode_led present entries m ≡ present
  pub rules : checkpoint_rules (record { object = o; moment = m; inode = present }) ≡ true
  pub there : row_of s.rows o ≡ Some row
  pub stamp : row.stamp ≤ s.log.spent

pub known : AllAreDone → RunsEnd → (s : StoreFields) (o : ℕ) (row : Row) (present : Inode) (entries : List EntryFields) (m : ℕ) → IsStore s → row_of s.rows o ≡ Some row → CanReplace s o row present entries → m ≡ last_entry s.log.held o row
    → Known s o row present entries m
known done end s o row present entries m store there can is =
    let object = store.objects o row there in
    let orderly = store.orderly o row there in
    let made = orderly.made in
    let within : IsFromTo row.created s.latest m = subst (IsFromTo row.created s.latest) (sym is) (last_within row.created s.latest (entries_of s.log.held o row) can.journal orderly.chain.moments) in
    let by : AllBy m entries = subst (λ (k : ℕ). AllBy k entries) (sym is) can.by in
    let last = led_last done end present entries m can.run by in
    let tidy : Tidy (contents_of s.log.held) present = subst (Tidy (contents_of s.log.held)) last (can.tidy m) in
    let created = can.made in
    record {
      object = object;
      orderly = orderly;
      within = within;
      by = by;
      last = last;
      rules = keeps_rules o m present object.stands.object (let low = within.0 in let first = made.0 in omega (arith, low, first)) (let first = made.0 in omega (arith, created, first)) tidy.size (holes_all present.size present.pointers tidy.holes);
      there = there;
      stamp = store.stamps o row there;
    }

-- what a store that was passed is asked, of it as it was opened: the names of the row are these pointers
pub record Asked (s : StoreFields) (o : ℕ) (row : Row) (present : Inode) (entries : List EntryFields) (m : ℕ) (pointers : List (Option Place)) : Type 0 where
  pub store : IsStore s
  pub can : CanReplace s o row present entries
  pub know : Known s o row present entries m
  pub are : pointers ≡ pointers_named s.log.held o row

-- ---- the blocks

-- what became of a table's blocks: of an object's data what the new row refers to stays, and no other is held
pub record Swaps (held later : Place → Option Stored) (o : ℕ) (present : Inode) (entries : List EntryFields) : Type 0 where
  pub kept : (p : Place) → Contains (pointers_told present entries) (Some p) → of_kind Data o later p ≡ of_kind Data o held p
  pub named : (p : Place) → IsSome (of_kind Data o later p) → Contains (pointers_told present entries) (Some p)
  pub others : OtherObjectsStay o held later

-- the names of the object's data are those that the new row gives it
pub exchanged : (before between : Log) (o : ℕ) (row : Row) (present : Inode) (entries : List EntryFields) → IsNamedBy o before (pointers_named before.held o row)
    → Recounts o before (pointers_told present entries) (pointers_named before.held o row) between → IsNamedBy o between (pointers_told present entries)
exchanged before between o row present entries counted counts p =
    let now = counts.here p in
    let was = counted p in
    omega (arith, now, was)

pub swapped : OnePlace → (before between : Log) (later : Place → Option Stored) (o : ℕ) (row : Row) (present : Inode) (entries : List EntryFields) → IsNamedBy o before (pointers_named before.held o row)
    → Recounts o before (pointers_told present entries) (pointers_named before.held o row) between → OnlyMetadataChanged o between.held later → Swaps before.held later o present entries
swapped one before between later o row present entries counted counts metadata =
    let same : of_kind Data o later ≡ of_kind Data o between.held = metadata Data o refl in
    let named = exchanged before between o row present entries counted counts in
    let others = recounts_data o before between (pointers_told present entries) (pointers_named before.held o row) counts in
    record {
      kept = λ p there.
          let told = contained_times p (pointers_told present entries) there in
          let is = named p in
          let some = there_named o between p (omega (arith, told, is)) in
          ap (λ (view : Place → Option (List ℕ)). view p) same
          ∙ ap (seen_as Data o) (recounts_kept o before between (pointers_told present entries) (pointers_named before.held o row) counts p some);
      named = λ p some.
          let some_between : IsSome (of_kind Data o between.held p) = subst (λ (view : Place → Option (List ℕ)). IsSome (view p)) same some in
          let least = named_there o between p counts.names some_between in
          let is = named p in
          times_contained one p (pointers_told present entries) (omega (arith, least, is));
      others = λ kind other beside. metadata kind other (and_right (same_kind Journal kind || is_checkpoint_kind kind) (o == other) beside) ∙ others kind other (and_right (same_kind Data kind) (o == other) beside);
    }

-- ---- the object

-- each inode that the entries lead to points to what is told
led_told : (present : Inode) (entries : List EntryFields) (t k : ℕ) (p : Place) → pointer_at (inode_led present entries t) k ≡ Some p → Contains (pointers_told present entries) (Some p)
led_told present entries t k p at = elim (redone_cases (entries_by t entries) (undone_all entries present) k p at) [
  | inl told ↦ Contains-append_right present.pointers (sides_told entries) (Some p) (by_told t entries (Some p) told)
  | inr first ↦ elim (undone_cases entries present k p first) [
    | inl told ↦ Contains-append_right present.pointers (sides_told entries) (Some p) told
    | inr here ↦ Contains-append_left present.pointers (sides_told entries) (Some p) (slot_there present.pointers k p here)
  ]
]

-- what is told leads to blocks
told_there : (s : StoreFields) (later : Place → Option Stored) (o : ℕ) (row : Row) (present : Inode) (entries : List EntryFields) → IsObject s.log.held o row s.latest → CanReplace s o row present entries → Swaps s.log.held later o present entries
    → (p : Place) → Contains (pointers_told present entries) (Some p) → IsSome (of_kind Data o s.log.held p) × IsSome (of_kind Data o later p)
told_there s later o row present entries object can swaps p there =
    let was = led_there s.log.held o (pointers_of s.log.held o row) p object.led (can.pointers p there) in
    (was, subst (λ (seen : Option (List ℕ)). IsSome seen) (sym (swaps.kept p there)) was)

told_led : (later : Place → Option Stored) (o : ℕ) (pointers : List (Option Place)) → ((p : Place) → Contains pointers (Some p) → IsSome (of_kind Data o later p)) → Leads later o pointers
told_led later o pointers leads = All-weaker (Contains pointers) (IsLed later o) (pointer_is_held later o pointers leads) pointers (All-contains_itself pointers)

told_agree : (s : StoreFields) (later : Place → Option Stored) (o : ℕ) (row : Row) (present : Inode) (entries : List EntryFields) (t : ℕ) → IsObject s.log.held o row s.latest → CanReplace s o row present entries → Swaps s.log.held later o present entries
    → AgreeAt (contents_of s.log.held) (contents_of later) (inode_led present entries t)
told_agree s later o row present entries t object can swaps k p at =
    let there = led_told present entries t k p at in
    same_bytes Data o (s.log.held p) (later p) (of_kind Data o s.log.held p) refl (told_there s later o row present entries object can swaps p there).0 (swaps.kept p there)

-- the pointers of the row are those that are told
kept_is : (later : Log) (o : ℕ) (row next : Row) (present : Inode) (entries : List EntryFields) (m : ℕ) → Rewrites later o row next present entries m → inode_led present entries m ≡ present → pointers_kept (checkpoint_of later.held o next) ≡ present.pointers
kept_is later o row next present entries m writes last =
    let (p, at) = some_place next.checkpoint writes.some in
    let told = subst (λ (c : Option Place). MatchOption c (next.checkpoint_moment ≡ 0) (λ q. checkpoint_held later.held o q ≡ Some (record { object = o; moment = next.checkpoint_moment; inode = inode_of later.held o next next.checkpoint_moment }))) at writes.stands.checkpoint in
    let moment : next.checkpoint_moment ≡ m = ap (λ (r : Row). r.checkpoint_moment) writes.fields in
    ap (λ (c : Option Place). pointers_kept (c >>= checkpoint_held later.held o)) at
    ∙ ap pointers_kept told
    ∙ ap (λ (i : Inode). i.pointers) (writes.inode next.checkpoint_moment ∙ ap (inode_led present entries) moment ∙ last)

pointers_are : (later : Log) (o : ℕ) (row next : Row) (present : Inode) (entries : List EntryFields) (m : ℕ) → Rewrites later o row next present entries m → inode_led present entries m ≡ present → pointers_of later.held o next ≡ pointers_told present entries
pointers_are later o row next present entries m writes last =
    ap (λ (kept : List (Option Place)). kept ++ sides_told (entries_of later.held o next)) (kept_is later o row next present entries m writes last)
    ∙ ap (λ (es : List EntryFields). present.pointers ++ sides_told es) writes.entries_are

-- and the names of its data are counted
pub replaced_counts : (before between later : Log) (o : ℕ) (row next : Row) (present : Inode) (entries : List EntryFields) (m : ℕ) → IsNamedBy o before (pointers_named before.held o row)
    → Recounts o before (pointers_told present entries) (pointers_named before.held o row) between → OnlyMetadataChanged o between.held later.held → later.named ≡ between.named → NamesAreOfData later
    → Rewrites later o row next present entries m → inode_led present entries m ≡ present → Counts before later o next
replaced_counts before between later o row next present entries m counted counts metadata named names writes last =
    let still : (q : ℕ) (p : Place) → named_of q later p ≡ named_of q between p = λ q p. named_alike q between later p (ap (λ (view : Place → Option (List ℕ)). view p) (metadata Data q refl)) (ap (λ (n : Place → ℕ). n p) named) in
    let none : next.sides ≡ [] = ap (λ (r : Row). r.sides) writes.fields in
    let are : pointers_named later.held o next ≡ pointers_told present entries ++ [] =
    ap (λ (slots : List (Option Place)). slots ++ pointers_aside later.held o next) (pointers_are later o row next present entries m writes last)
    ∙ ap (λ (sides : List Side). pointers_told present entries ++ pointers_of_sides later.held o sides) none in
    record {
      names = names;
      here = λ p. still o p ∙ exchanged before between o row present entries counted counts p ∙ sym (ap (times_led p) (are ∙ append-nil (pointers_told present entries)));
      beside = λ q p beside. still q p ∙ counts.beside q p beside;
      few = subst (λ (sides : List Side). length sides ≤ SIDES) (sym none) (omega arith);
    }

-- the next row, changed once more
abbrev pub put_row : Row → Row → Row
put_row row next = record next { stamp = row.stamp + 1 }

replaced_object : IsByLater → OnlyItsBlocksMatter → (s : StoreFields) (log : Log) (o : ℕ) (row next : Row) (present : Inode) (entries : List EntryFields) (m : ℕ)
    → CanReplace s o row present entries → Known s o row present entries m → Swaps s.log.held log.held o present entries → Rewrites log o row next present entries m → IsObject log.held o (put_row row next) s.latest
replaced_object later_by matter s log o row next present entries m can know swaps writes =
    let by = later_by log.held o next m s.latest know.within.1 writes.by in
    let there : (p : Place) → Contains (pointers_told present entries) (Some p) → IsSome (of_kind Data o log.held p) = λ p told. (told_there s log.held o row present entries know.object can swaps p told).1 in
    let is : (t : ℕ) → inode_of log.held o (put_row row next) t ≡ inode_led present entries t = λ t. stamped_inode log.held o next (row.stamp + 1) t ∙ writes.inode t in
    record {
      stands = stamped_row log.held o next (row.stamp + 1) writes.stands;
      by = record { entries = by.entries; checkpoint = by.checkpoint };
      led = subst (Leads log.held o) (sym (pointers_are log o row next present entries m writes know.last)) (told_led log.held o (pointers_told present entries) there);
      tidy = λ t. subst (Tidy (contents_of log.held)) (sym (is t))
          ((matter (contents_of s.log.held) (contents_of log.held) (inode_led present entries t) (told_agree s log.held o row present entries t know.object can swaps)).1 (can.tidy t));
      pointers = λ t. subst (PointersHeld log.held o) (sym (is t)) (λ k p at. there p (led_told present entries t k p at));
    }

-- ---- the store

-- the rows with the next one, changed once more
abbrev pub IsPut : StoreFields → List (ℕ × Row) → ℕ → Row → Row → Type 0
IsPut s rows o row next = (q : ℕ) → row_of rows q ≡ with_row (row_of s.rows) o (put_row row next) q

replaced_changes : ChangesStand → (s : StoreFields) (rows : List (ℕ × Row)) (log : Log) (o : ℕ) (row next : Row) (present : Inode) (entries : List EntryFields) (m : ℕ)
    → IsStore s → CanReplace s o row present entries → Known s o row present entries m → Swaps s.log.held log.held o present entries → Rewrites log o row next present entries m
    → TakesPlaces (rewritten_blocks present entries) s.log log → rewritten_blocks present entries ≤ length s.log.ahead → IsPut s rows o row next → Counts s.log log o next
    → Changes s (next_store s rows log) o (rewritten_blocks present entries) (Some (put_row row next))
replaced_changes rest s rows log o row next present entries m store can know swaps writes takes room put counts = record {
  put = put;
  here = some_keeps (next_store s rows log) o (put_row row next) (record {
    object = replaced_object rest.later rest.meaning s log o row next present entries m can know swaps writes;
    orderly = rest.orderly.stamp log.held o s.latest (row.stamp + 1) next (writes.orderly s.latest can.order know.within know.orderly.made);
    counted = counts.here;
    few = counts.few;
    stamp = let bound = know.stamp in let least = rest.checkpoint_blocks present in let more : log.spent ≡ rewritten_blocks present entries + s.log.spent = takes.spent in omega (arith, bound, more, least);
  });
  gone = some_stays (put_row row next) (HasNothing log.held o);
  names = counts.names;
  beside = counts.beside;
  others = swaps.others;
  takes = takes;
  sum = sum_stays (rewritten_blocks present entries) s.log log takes room;
  latest = omega arith;
  across = renewed_across s.rows rows s.log.held log.held o row (put_row row next) know.there put (ap (λ (r : Row). r.created) writes.fields)
      (subst (λ (es : List EntryFields). (e : EntryFields) → Contains es e → IsMomentOf (entries_of s.log.held o row) e.moment) (sym writes.entries_are) can.moments)
      (λ q r beside e. same_entries s.log.held log.held q r (swaps.others Journal q beside))
      (record { ascending = store.ascending; apart = store.apart });
}

replaced_inodes : ChangesStand → (s : StoreFields) (rows : List (ℕ × Row)) (log : Log) (o count : ℕ) (row next : Row) (present : Inode) (entries : List EntryFields) (m : ℕ)
    → Rewrites log o row next present entries m → Changes s (next_store s rows log) o count (Some (put_row row next))
    → (q t : ℕ) → inode_in (next_store s rows log) q t ≡ cond (o == q) (Some (inode_led present entries t)) (inode_in s q t)
replaced_inodes rest s rows log o count row next present entries m writes changes q t =
    changed_inodes rest s (next_store s rows log) o count (Some (put_row row next)) changes q t
    ∙ ap (λ (i : Inode). cond (o == q) (Some i) (inode_in s q t)) (stamped_inode log.held o next (row.stamp + 1) t ∙ writes.inode t)

replaced_versions : ChangesStand → (s : StoreFields) (rows : List (ℕ × Row)) (log : Log) (o count : ℕ) (row next : Row) (present : Inode) (entries : List EntryFields) (m : ℕ)
    → IsStore s → CanReplace s o row present entries → Known s o row present entries m → Swaps s.log.held log.held o present entries → Rewrites log o row next present entries m → Changes s (next_store s rows log) o count (Some (put_row row next))
    → (q t : ℕ) → version_in (next_store s rows log) q t ≡ cond (o == q) (meaning (contents_of s.log.held) (inode_led present entries t)) (version_in s q t)
replaced_versions rest s rows log o count row next present entries m store can know swaps writes changes q t =
    changed_versions rest s (next_store s rows log) o count (Some (put_row row next)) (store_others s o store) changes q t
    ∙ ap (λ (v : Version). cond (o == q) v (version_in s q t))
    (ap (meaning (contents_of log.held)) (stamped_inode log.held o next (row.stamp + 1) t ∙ writes.inode t)
    ∙ (rest.meaning (contents_of s.log.held) (contents_of log.held) (inode_led present entries t) (told_agree s log.held o row present entries t know.object can swaps)).0)

replaced_made : (s : StoreFields) (rows : List (ℕ × Row)) (log : Log) (o : ℕ) (row next : Row) (present : Inode) (entries : List EntryFields) (m : ℕ)
    → Known s o row present entries m → m ≡ last_entry s.log.held o row → Swaps s.log.held log.held o present entries → Rewrites log o row next present entries m
    → TakesPlaces (rewritten_blocks present entries) s.log log → IsPut s rows o row next → IsReplaced s o row present entries (next_store s rows log)
replaced_made s rows log o row next present entries m know is swaps writes takes put = record {
  next = put_row row next;
  rest = ap (λ (r : Row). record r { stamp = row.stamp + 1; journal_bytes = next.journal_bytes }) writes.fields
      ∙ ap (λ (k : ℕ). record row { checkpoint = next.checkpoint; checkpoint_moment = k; head = next.head; journal_bytes = next.journal_bytes; head_bytes = next.head_bytes; sides = []; stamp = row.stamp + 1 }) is;
  put = put;
  journal = writes.entries_are;
  pointers = pointers_are log o row next present entries m writes know.last;
  kept = swaps.kept;
  named = swaps.named;
  others = swaps.others;
  takes = takes;
  latest = refl;
}

pub replaced : ChangesStand → (s : StoreFields) (rows : List (ℕ × Row)) (log : Log) (o : ℕ) (row next : Row) (present : Inode) (entries : List EntryFields) (m : ℕ)
    → IsStore s → CanReplace s o row present entries → Known s o row present entries m → m ≡ last_entry s.log.held o row → Swaps s.log.held log.held o present entries → Rewrites log o row next present entries m
    → TakesPlaces (rewritten_blocks present entries) s.log log → rewritten_blocks present entries ≤ length s.log.ahead → IsPut s rows o row next → Counts s.log log o next → Replaces s o row present entries (next_store s rows log)
replaced rest s rows log o row next present entries m store can know is swaps writes takes room put counts =
    let count = rewritten_blocks present entries in
    let changes = replaced_changes rest s rows log o row next present entries m store can know swaps writes takes room put counts in
    record {
      store = changed_store rest s (next_store s rows log) o count (Some (put_row row next)) (store_others s o store) changes;
      replaced = replaced_made s rows log o row next present entries m know is swaps writes takes put;
      inodes = replaced_inodes rest s rows log o count row next present entries m writes changes;
      versions = replaced_versions rest s rows log o count row next present entries m store can know swaps writes changes;
    }

-- ---- the inode beside the row

pub led_later : AllAreDone → RunsEnd → (s : StoreFields) (o : ℕ) (row : Row) (present : Inode) (entries : List EntryFields) (m : ℕ) → Known s o row present entries m → CanReplace s o row present entries → inode_led present entries s.latest ≡ present
led_later done end s o row present entries m know can = led_last done end present entries s.latest can.run (all_by_later m s.latest entries know.within.1 know.by)

-- the inode beside each row is its present one, where one was changed with its row
pub kept_beside : (o : ℕ) (values after : ℕ → Option Inode) (present : Inode) (latest : ℕ) (s later : StoreFields) (led : ℕ → Inode) → led latest ≡ present
    → ((q : ℕ) → after q ≡ with_value values o present q) → ((q : ℕ) → values q ≡ inode_in s q latest)
    → ((q t : ℕ) → inode_in later q t ≡ cond (o == q) (Some (led t)) (inode_in s q t)) → (q : ℕ) → after q ≡ inode_in later q latest
kept_beside o values after present latest s later led last put keeps inodes q =
    put q ∙ ap (λ (i : Option Inode). cond (o == q) (Some present) i) (keeps q) ∙ ap (λ (i : Inode). cond (o == q) (Some i) (inode_in s q latest)) (sym last) ∙ sym (inodes q latest)
