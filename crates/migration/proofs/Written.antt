-- An object whose data was copied and whose row was written then.
use Rattle.std.proofs.Common.{◌≡◌, ℕ, ◌≤◌, ◌==◌, true, false, List, [], ◌++◌, length, map, reverse, Option, Some, None, IsSome, MatchOption, is_some, refl, sym, ap, subst, ◌∙◌}
use Rattle.std.specs.Prelude.{◌||◌}
use Rattle.std.specs.List.{All, Contains}
use Rattle.std.proofs.lemmas.Bool.{and_right}
use Rattle.std.proofs.lemmas.List.{append-nil}
use Rattle.std.proofs.lemmas.List.Elements.{All-weaker, All-map}
use Rattle.s4_types.specs.Pointer.{Place}
use Rattle.lemmas.proofs.Contains.{contains_map}
use Rattle.block_log.specs.Log.{Log, Stored, of_kind, same_kind}
use Rattle.block_log.specs.Taken.{TakesPlaces}
use Rattle.block_log.specs.declared.kinds.BlockKind.{BlockKind}
use Rattle.block_log.specs.declared.kinds.BlockKind.TheVariants.{Journal, Data}
use Rattle.codec.specs.Checkpoint.{pointer_at}
use Rattle.codec.specs.Entry.{EntryFields, entries_length}
use Rattle.codec.specs.declared.inodes.Inode.{Inode}
use Rattle.undo_redo.specs.Runs.{inode_after}
use Rattle.inode.specs.Contents.{contents_of, meaning}
use Rattle.inode.specs.Tidiness.{Tidy}
use Rattle.journal_chain.specs.Chain.{chain_places}
use Rattle.checkpoint.specs.Held.{is_one_of, is_checkpoint_kind}
use Rattle.object_map.specs.declared.map.Row.{Row}
use Rattle.object_map.specs.Rows.{fresh_row}
use Rattle.time_read.specs.Rows.{IsRow, entries_of, checkpoint_of, inode_of, checkpoint_places_of}
use Rattle.time_read.specs.Orderly.{IsFromTo, IsOrderly, IsOrderlyChain, BeginsDead}
use Rattle.chain_rewriting.specs.Apart.{Passes, ToldWithin}
use Rattle.chain_rewriting.specs.Mapping.{mapped_slot, mapped_inode, KeepsContents}
use Rattle.row_changes.specs.Rewritten.{OnlyMetadataChanged}
use Rattle.row_changes.specs.Moving.{checkpoint_kept, first_kept, moved_blocks}
use Rattle.version_store.specs.Store.{HasNothing, IsLed, pointers_kept, pointers_of, sides_told}
use Rattle.image_objects.specs.declared.rows.ImageRow.{ImageRow}
use Rattle.migration.specs.declared.moves.Move.{Move}
use Rattle.migration.specs.Places.{pointers_in, data_pointers, data_places}
use Rattle.migration.specs.Moves.{moved_by, is_moved, new_places}
use Rattle.migration.specs.Copied.{CanCopy, CopiesBy, IsInOrder, entries_then, first_inode, inode_at, kept_then, data_moves}
use Rattle.migration.specs.private.CopyLaws.{CopyLaws}
use Rattle.migration.specs.private.Copying.{Copying, AreApart, IsUsedData}
use Rattle.migration.proofs.Ascending.{apart, ascend_with}
use Rattle.migration.proofs.Moving.{OnePlace, old_places, from_places, copied_at, comes_from, moved_is}
use Rattle.migration.proofs.Mapping.{same_blocks, held_stays, GoesSomewhere, each_goes, told_within, same_bytes, beginning_mapped, mapped_pointers, some_mapped, kept_pointers, of_pointers, is_told}

-- what is told of the row that was written, in place of this one
pub record Wrote (o : ℕ) (start : Row) (m : ℕ) (kept : Option Inode) (entries : List EntryFields) (middle after : Log) (later : Row) : Type 0 where
  pub row : IsRow after.held o later
  pub journal : entries_of after.held o later ≡ entries
  pub checkpoint : checkpoint_of after.held o later ≡ checkpoint_kept o m kept
  pub inode : (t : ℕ) → inode_of after.held o later t ≡ inode_after (first_kept o start.created m kept entries) entries t
  pub orderly : (latest : ℕ) → IsOrderlyChain start.created latest (first_kept o start.created m kept entries) entries → IsFromTo 1 latest start.created → MatchOption kept (BeginsDead entries) (λ i. IsFromTo start.created latest m) → IsOrderly after.held o later latest
  pub fields : later ≡ record start { checkpoint = later.checkpoint; checkpoint_moment = m; head = later.head; journal_bytes = entries_length entries; head_bytes = later.head_bytes }
  pub some : is_some later.checkpoint ≡ is_some kept
  pub others : OnlyMetadataChanged o middle.held after.held
  pub takes : TakesPlaces (moved_blocks kept entries) middle after
  pub order : middle.ahead ≡ checkpoint_places_of after.held o later ++ (reverse (chain_places (of_kind Journal o after.held) o later.head) ++ after.ahead)

-- ---- after

-- the first inode is the mapped one
pub first_is : (moves : List Move) → CopyLaws moves → (row : ImageRow) (kept : Option Inode) (entries : List EntryFields)
    → first_kept row.object row.created row.checkpoint_moment (kept_then moves kept) (entries_then moves entries) ≡ mapped_inode (moved_by moves) (first_inode row kept entries)
first_is moves laws row kept entries = laws.begins (moved_by moves) row.object row.created row.checkpoint_moment kept entries

-- so it is at each moment
then_is : (moves : List Move) → CopyLaws moves → (row : ImageRow) (kept : Option Inode) (entries : List EntryFields) (t : ℕ)
    → inode_after (first_kept row.object row.created row.checkpoint_moment (kept_then moves kept) (entries_then moves entries)) (entries_then moves entries) t ≡ mapped_inode (moved_by moves) (inode_at row kept entries t)
then_is moves laws row kept entries t =
    ap (λ (i : Inode). inode_after i (entries_then moves entries) t) (first_is moves laws row kept entries) ∙ laws.shown (first_inode row kept entries) entries t

-- the pointers of the row are the mapped ones
led_is : (moves : List Move) → CopyLaws moves → (held : Place → Option Stored) (row : ImageRow) (kept : Option Inode) (entries : List EntryFields) (later : Row)
    → entries_of held row.object later ≡ entries_then moves entries → checkpoint_of held row.object later ≡ checkpoint_kept row.object row.checkpoint_moment (kept_then moves kept)
    → pointers_of held row.object later ≡ map (mapped_slot (moved_by moves)) (data_pointers kept entries)
led_is moves laws held row kept entries later told kept_is =
    let f : Place → Place = moved_by moves in
    ap (λ (es : List EntryFields). pointers_kept (checkpoint_of held row.object later) ++ sides_told es) told
    ∙ ap (λ (x : List (Option Place)). x ++ sides_told (entries_then moves entries)) (ap pointers_kept kept_is ∙ kept_pointers row.object row.checkpoint_moment (kept_then moves kept) ∙ mapped_pointers f kept)
    ∙ laws.tells (of_pointers (pointers_in kept)) entries

-- data is a matter of the first step alone
data_stays : (o : ℕ) (middle after : Log) → OnlyMetadataChanged o middle.held after.held → of_kind Data o after.held ≡ of_kind Data o middle.held
data_stays o middle after others = others Data o refl

-- what the copies come to
pub record Data_is (used : Place → Option Stored) (o : ℕ) (moves : List Move) (after : Log) : Type 0 where
  pub copied : (p : Place) → is_moved moves p ≡ true → IsUsedData used o p × (of_kind Data o after.held (moved_by moves p) ≡ of_kind Data o used p)
  pub only : (p : Place) → IsSome (of_kind Data o after.held p) → is_one_of (new_places moves) p ≡ true

data_then : OnePlace → (used : Place → Option Stored) (o : ℕ) (places : List Place) (count : ℕ) (before middle after : Log) (moves : List Move) → Copying used o places [] count before middle moves → OnlyMetadataChanged o middle.held after.held → Data_is used o moves after
data_then one used o places count before middle after moves copying others = record {
  copied = λ p is. let at = copied_at one used middle.held o moves p copying.copied is in (at.0, ap (λ (v : Place → Option (List ℕ)). v (moved_by moves p)) (data_stays o middle after others) ∙ at.1);
  only = λ p some. copying.only p (subst (λ (v : Place → Option (List ℕ)). IsSome (v p)) (data_stays o middle after others) some);
}

contents_kept : (used : Place → Option Stored) (o : ℕ) (moves : List Move) (after : Log) → Data_is used o moves after → KeepsContents (Passes (is_moved moves)) (moved_by moves) (contents_of used) (contents_of after.held)
contents_kept used o moves after is p passes = let at = is.copied p passes in same_bytes o (after.held (moved_by moves p)) (used p) at.0 at.1

-- a mapped pointer refers to data of the object
led_then : (used : Place → Option Stored) (o : ℕ) (moves : List Move) (after : Log) → Data_is used o moves after → (slot : Option Place) → GoesSomewhere moves slot → IsLed after.held o (mapped_slot (moved_by moves) slot)
led_then used o moves after is None goes = tt
led_then used o moves after is (Some p) goes = let at = is.copied p goes in subst (λ (x : Option (List ℕ)). IsSome x) (sym at.1) at.0

pointed_then : (used : Place → Option Stored) (o : ℕ) (moves : List Move) (after : Log) → Data_is used o moves after → (slot : Option Place) (p : Place) → GoesSomewhere moves slot → mapped_slot (moved_by moves) slot ≡ Some p → IsSome (of_kind Data o after.held p)
pointed_then used o moves after is slot p goes at = subst (λ (x : Option Place). IsLed after.held o x) at (led_then used o moves after is slot goes)

pub copied_row : (moves : List Move) → CopyLaws moves → (used : Place → Option Stored) (row : ImageRow) (kept : Option Inode) (entries : List EntryFields) (before middle after : Log) (later : Row)
    → CanCopy used row kept entries → HasNothing before.held row.object → length (data_places kept entries) ≤ length before.ahead
    → Copying used row.object (data_places kept entries) [] (length (data_places kept entries)) before middle moves
    → Wrote row.object (fresh_row row.created) row.checkpoint_moment (kept_then moves kept) (entries_then moves entries) middle after later
    → CopiesBy used row kept entries moves before after later
copied_row moves laws used row kept entries before middle after later can nothing fits copying wrote =
    let f : Place → Place = moved_by moves in
    let o : ℕ = row.object in
    let exact : moves ≡ data_moves kept entries before = sym (append-nil moves) ∙ copying.exact in
    let from : old_places moves ≡ data_places kept entries = ap old_places exact ∙ from_places (data_places kept entries) before.ahead fits in
    let goes : All (GoesSomewhere moves) (data_pointers kept entries) = each_goes moves (data_pointers kept entries) from in
    let within : ToldWithin (Passes (is_moved moves)) (first_inode row kept entries) entries = told_within laws.listed moves o row.created row.checkpoint_moment kept entries goes in
    let is : Data_is used o moves after = data_then laws.one used o (data_places kept entries) (length (data_places kept entries)) before middle after moves copying wrote.others in
    let inodes : (t : ℕ) → inode_of after.held o later t ≡ mapped_inode f (inode_at row kept entries t) = λ t. wrote.inode t ∙ then_is moves laws row kept entries t in
    let mapped : (t : ℕ) → inode_of after.held o later t ≡ inode_after (mapped_inode f (first_inode row kept entries)) (entries_then moves entries) t = λ t. inodes t ∙ sym (laws.shown (first_inode row kept entries) entries t) in
    let same = λ (t : ℕ). laws.same (contents_of used) (contents_of after.held) (first_inode row kept entries) entries t (contents_kept used o moves after is) within in
    let led : pointers_of after.held o later ≡ map (mapped_slot f) (data_pointers kept entries) = led_is moves laws after.held row kept entries later wrote.journal wrote.checkpoint in
    let orderly : (latest : ℕ) → IsInOrder row kept entries latest → IsOrderly after.held o later latest = λ latest told. wrote.orderly latest
    (subst (λ (i : Inode). IsOrderlyChain row.created latest i (entries_then moves entries)) (sym (first_is moves laws row kept entries)) (laws.in_order row.created latest (first_inode row kept entries) entries told.chain))
    told.made (beginning_mapped f (IsFromTo row.created latest row.checkpoint_moment) kept entries told.beginning) in
    let others : (kind : BlockKind) (other : ℕ) → (o == other) ≡ false → of_kind kind other after.held ≡ of_kind kind other before.held = λ kind other not. wrote.others kind other (and_right (same_kind Journal kind || is_checkpoint_kind kind) (o == other) not)
    ∙ (λ i q. copying.others kind other q (and_right (same_kind kind Data) (o == other) not) i) in
    let blocks : moved_blocks (kept_then moves kept) (entries_then moves entries) ≡ moved_blocks kept entries = same_blocks laws.holes f laws.each kept entries in
    record {
      is_row = wrote.row;
      journal = wrote.journal;
      checkpoint = wrote.checkpoint;
      inodes = inodes;
      versions = λ t. ap (meaning (contents_of after.held)) (mapped t) ∙ (same t).0;
      objects = λ latest told. record {
        stands = wrote.row;
        by = laws.by after.held o later latest wrote.row (orderly latest told);
        led = subst (λ (x : List (Option Place)). All (IsLed after.held o) x) (sym led)
            (All-map (IsLed after.held o) (mapped_slot f) (data_pointers kept entries) (All-weaker (GoesSomewhere moves) (λ s. IsLed after.held o (mapped_slot f s)) (led_then used o moves after is) (data_pointers kept entries) goes));
        tidy = λ t. subst (λ (i : Inode). Tidy (contents_of after.held) i) (sym (mapped t)) ((same t).1 (can.tidy t));
        pointers = λ t k p at. pointed_then used o moves after is (pointer_at (inode_at row kept entries t) k) p
            (laws.points (is_moved moves) (first_inode row kept entries) entries t within k)
            (sym (laws.pointers (inode_at row kept entries t) k) ∙ ap (λ (i : Inode). pointer_at i k) (sym (inodes t)) ∙ at);
      };
      orderly = orderly;
      fields = wrote.fields ∙ ap (λ n. record (fresh_row row.created) { checkpoint = later.checkpoint; checkpoint_moment = row.checkpoint_moment; head = later.head; journal_bytes = n; head_bytes = later.head_bytes }) (laws.bytes entries);
      some = wrote.some ∙ some_mapped f kept;
      named = λ p some.
          let came = comes_from laws.one moves p (subst (λ (x : List Place). AreApart x) (sym from) (apart (data_places kept entries) (ascend_with [] (data_pointers kept entries) tt))) (is.only p some) in
          let told : Contains (data_pointers kept entries) (Some came.place) = is_told laws.one (data_pointers kept entries) came.place (ap (λ (x : List Place). is_one_of x came.place) (sym from) ∙ sym (moved_is moves came.place) ∙ came.moved) in
          let there : Contains (map (mapped_slot f) (data_pointers kept entries)) (Some (f came.place)) = contains_map (mapped_slot f) (data_pointers kept entries) (Some came.place) told in
          subst (λ (x : List (Option Place)). Contains x (Some p)) (sym led) (subst (λ (q : Place). Contains (map (mapped_slot f) (data_pointers kept entries)) (Some q)) came.goes there);
      copies = λ p moved. (is.copied p moved).1;
      others = others;
      stay = held_stays o before.held after.held nothing others;
      order = copying.ahead ∙ ap (λ (x : List Place). new_places moves ++ x) wrote.order;
      takes = laws.add_up (length (data_places kept entries)) (moved_blocks kept entries) before middle after copying.takes (subst (λ n. TakesPlaces n middle after) blocks wrote.takes);
    }
