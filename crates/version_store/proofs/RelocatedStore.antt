-- What the relocation of an object's blocks leaves of a whole store.
use Rattle.std.proofs.Common.{◌≡◌, ◌⊎◌, inl, inr, ℕ, suc, ◌+◌, ◌<◌, ◌≤◌, ◌==◌, leb, cond, Bool, List, [], ◌∷◌, ◌++◌, length, map, take, Option, Some, None, IsSome, IfSome, is_some, MatchOption, option_map, refl, sym, ap, subst, ◌∙◌, arith}
use Rattle.std.specs.List.{Contains}
use Rattle.std.proofs.lemmas.Bool.{cases_Bool, cond-true, cond-false, eqb-true}
use Rattle.std.proofs.lemmas.List.Elements.{All-map, All-weaker}
use Rattle.std.proofs.lemmas.List.{append-nil}
use Rattle.std.proofs.lemmas.Option.{none-some, same_Some}
use Rattle.s4_types.specs.Pointer.{Place}
use Rattle.s4_types.specs.declared.versions.Version.{Version}
use Rattle.block_log.specs.Log.{Log, Stored, of_kind, seen_as}
use Rattle.block_log.specs.Taken.{TakesPlaces}
use Rattle.block_log.specs.declared.kinds.BlockKind.TheVariants.{Journal, Data}
use Rattle.codec.specs.Checkpoint.{CheckpointFields, pointer_at}
use Rattle.codec.specs.Entry.{EntryFields, entry_length}
use Rattle.codec.specs.Fields.{◌>>=◌}
use Rattle.checkpoint.specs.Held.{checkpoint_held, checkpoint_blocks}
use Rattle.codec.specs.declared.inodes.Inode.{Inode}
use Rattle.undo_redo.specs.Runs.{AllBy}
use Rattle.inode.specs.Contents.{contents_of, meaning}
use Rattle.inode.specs.Tidiness.{Tidy, PointersHeld}
use Rattle.object_map.specs.declared.map.Row.{Row}
use Rattle.object_map.specs.declared.sides.Side.{Side}
use Rattle.s4_types.specs.declared.limits.TheConstants.{SIDES}
use Rattle.object_map.specs.Rows.{row_of}
use Rattle.time_read.specs.Rows.{entries_of, checkpoint_of, inode_of}
use Rattle.time_read.specs.Orderly.{IsFromTo, BeginsDead}
use Rattle.journal_chain.specs.Push.{whole_blocks}
use Rattle.time_read.proofs.Staying.{same_entries}
use Rattle.row_changes.specs.Moving.{kept_blocks, moved_blocks}
use Rattle.chain_rewriting.specs.Renaming.{RenamingFields, new_place, renamed, renamed_slot, renamed_entries, renamed_inode}
use Rattle.chain_rewriting.specs.Apart.{Passes, HasCopies}
use Rattle.chain_rewriting.specs.Places.{ARenamedChainTellsInOrder}
use Rattle.chain_rewriting.specs.RenamingLaws.{APointerIsRenamed, ARenamedInodeMeansTheSame, RenamedEntriesHaveOldMoments, TheMomentsOfRenamedEntriesAreOld}
use Rattle.chain_rewriting.proofs.Rules.{renamed_stays, renamed_moves}
use Rattle.version_store.specs.declared.copies.CopiedBlock.{CopiedBlock}
use Rattle.version_store.specs.Store.{HasNothing, StoreFields, IsStore, IsObject, IsLed, sides_told, pointers_aside, pointers_kept, pointers_named, pointers_of, pointers_of_sides, times_led}
use Rattle.version_store.specs.Versions.{inode_by, inode_in, version_by, version_in}
use Rattle.version_store.specs.Relocating.{IsRelocated, blocks_relocated, renaming_by, renamed_checkpoint}
use Rattle.version_store.specs.private.Below.{ChangesStand, SomeBlocksAreNeeded, CheckpointsTakeBlocks}
use Rattle.version_store.specs.private.Relocating.{IsOldOrNew, NamesMove, Relocates, RelocatesIn}
use Rattle.version_store.specs.private.Recounting.{Counts}
use Rattle.version_store.proofs.Frames.{same_bytes}
use Rattle.version_store.proofs.Telling.{Leads}
use Rattle.version_store.proofs.Steps.{stamped_row, stamped_inode}
use Rattle.version_store.proofs.Spending.{sum_stays}
use Rattle.version_store.proofs.Across.{renewed_across}
use Rattle.version_store.proofs.CheckpointSteps.{next_store}
use Rattle.version_store.proofs.Replaced.{IsPut, put_row}
use Rattle.version_store.proofs.Changed.{Changes, own_or_other, own_there, some_keeps, some_stays, changed_inodes, changed_store, changed_versions, store_others}
use Rattle.version_store.proofs.RenamedJournal.{of_pointers}

-- the laws that this rests on
pub record Laws : Type 0 where
  pub rest : ChangesStand
  pub means : ARenamedInodeMeansTheSame
  pub points : APointerIsRenamed
  pub tells : ARenamedChainTellsInOrder
  pub within : RenamedEntriesHaveOldMoments
  pub old : TheMomentsOfRenamedEntriesAreOld

-- ---- pointers

kept_renamed : (r : RenamingFields) (c : Option CheckpointFields) → pointers_kept (option_map (renamed_checkpoint r) c) ≡ map (renamed_slot r) (pointers_kept c)
kept_renamed r None = refl
kept_renamed r (Some c) = refl

-- the row leads where it led, renamed
pub pointers_renamed : Laws → (before later : Log) (o : ℕ) (row next : Row) (copies : List CopiedBlock) (r : RenamingFields) → Relocates before o row copies next later r → pointers_of later.held o next ≡ map (renamed_slot r) (pointers_of before.held o row)
pointers_renamed laws before later o row next copies r w =
    ap (λ (c : Option CheckpointFields). pointers_kept c ++ sides_told (entries_of later.held o next)) w.kept
    ∙ ap (λ (es : List EntryFields). pointers_kept (option_map (renamed_checkpoint r) (checkpoint_of before.held o row)) ++ sides_told es) w.journal
    ∙ ap (λ (slots : List (Option Place)). slots ++ sides_told (renamed_entries r (entries_of before.held o row))) (kept_renamed r (checkpoint_of before.held o row))
    ∙ laws.tells r (of_pointers (pointers_kept (checkpoint_of before.held o row))) (entries_of before.held o row)

-- where a block of the object was, one is at the renamed place, with the same bytes
pub renamed_there : (before later : Log) (o : ℕ) (row next : Row) (copies : List CopiedBlock) (r : RenamingFields) → Relocates before o row copies next later r → (p : Place) (new : Option Place) → new_place r p ≡ new → IsSome (of_kind Data o before.held p)
    → of_kind Data o later.held (renamed r p) ≡ of_kind Data o before.held p
renamed_there before later o row next copies r w p None is some = ap (λ (q : Place). of_kind Data o later.held q) (renamed_stays r p is) ∙ w.stayed p some is
renamed_there before later o row next copies r w p (Some q) is some = ap (λ (x : Place). of_kind Data o later.held x) (renamed_moves r p q is) ∙ (w.copied p q is).1

renamed_some : (before later : Log) (o : ℕ) (row next : Row) (copies : List CopiedBlock) (r : RenamingFields) → Relocates before o row copies next later r → (p : Place) → IsSome (of_kind Data o before.held p) → IsSome (of_kind Data o later.held (renamed r p))
renamed_some before later o row next copies r w p some = ap is_some (renamed_there before later o row next copies r w p (new_place r p) refl some) ∙ some

slot_led : (before later : Log) (o : ℕ) (row next : Row) (copies : List CopiedBlock) (r : RenamingFields) → Relocates before o row copies next later r → (slot : Option Place) → IsLed before.held o slot → IsLed later.held o (renamed_slot r slot)
slot_led before later o row next copies r w None led = tt
slot_led before later o row next copies r w (Some p) led = renamed_some before later o row next copies r w p led

slot_goes : (before later : Log) (o : ℕ) (row next : Row) (copies : List CopiedBlock) (r : RenamingFields) → Relocates before o row copies next later r → (slot : Option Place) (q : Place) → ((p : Place) → slot ≡ Some p → IsSome (of_kind Data o before.held p)) → renamed_slot r slot ≡ Some q → IsSome (of_kind Data o later.held q)
slot_goes before later o row next copies r w None q leads at = absurd (none-some q at)
slot_goes before later o row next copies r w (Some p) q leads at = subst (λ (x : Place). IsSome (of_kind Data o later.held x)) (same_Some (renamed r p) q at) (renamed_some before later o row next copies r w p (leads p refl))

-- ---- what inodes mean

-- a data block of the object was there
abbrev pub was_there : ℕ → (Place → Option Stored) → Place → Bool
was_there o held p = is_some (of_kind Data o held p)

has_copies : (before later : Log) (o : ℕ) (row next : Row) (copies : List CopiedBlock) (r : RenamingFields) → Relocates before o row copies next later r → HasCopies (Passes (was_there o before.held)) r (contents_of before.held) (contents_of later.held)
has_copies before later o row next copies r w = record {
  copied = λ p q some is. same_bytes Data o (before.held p) (later.held q) (of_kind Data o before.held p) refl some (w.copied p q is).1;
  stayed = λ p some is. same_bytes Data o (before.held p) (later.held p) (of_kind Data o before.held p) refl some (w.stayed p some is);
}

slot_was : (held : Place → Option Stored) (o : ℕ) (slot : Option Place) → ((p : Place) → slot ≡ Some p → IsSome (of_kind Data o held p)) → IfSome slot (Passes (was_there o held))
slot_was held o None leads = tt
slot_was held o (Some p) leads = leads p refl

pub means_renamed : Laws → (before later : Log) (o : ℕ) (row next : Row) (copies : List CopiedBlock) (r : RenamingFields) → Relocates before o row copies next later r → (i : Inode) → PointersHeld before.held o i
    → (meaning (contents_of later.held) (renamed_inode r i) ≡ meaning (contents_of before.held) i) × (Tidy (contents_of before.held) i → Tidy (contents_of later.held) (renamed_inode r i))
means_renamed laws before later o row next copies r w i leads =
    laws.means (was_there o before.held) r (contents_of before.held) (contents_of later.held) i (has_copies before later o row next copies r w) (λ k. slot_was before.held o (pointer_at i k) (leads k))

-- ---- the object

relocated_object : Laws → (before later : Log) (o latest : ℕ) (row next : Row) (copies : List CopiedBlock) (r : RenamingFields) → Relocates before o row copies next later r → IsObject before.held o row latest → IsObject later.held o (put_row row next) latest
relocated_object laws before later o latest row next copies r w object =
    let is : (t : ℕ) → inode_of later.held o (put_row row next) t ≡ renamed_inode r (inode_of before.held o row t) = λ t. stamped_inode later.held o next (row.stamp + 1) t ∙ w.inode t in
    let moment : next.checkpoint_moment ≡ row.checkpoint_moment = ap (λ (x : Row). x.checkpoint_moment) w.fields in
    record {
      stands = stamped_row later.held o next (row.stamp + 1) w.stands;
      by = record {
        entries = subst (λ (es : List EntryFields). AllBy latest es) (sym w.journal) (laws.within r (λ m. leb m latest) (entries_of before.held o row) object.by.entries);
        checkpoint = subst (λ m. m ≤ latest) (sym moment) object.by.checkpoint;
      };
      led = subst (Leads later.held o) (sym (pointers_renamed laws before later o row next copies r w))
          (All-map (IsLed later.held o) (renamed_slot r) (pointers_of before.held o row) (All-weaker (IsLed before.held o) (λ slot. IsLed later.held o (renamed_slot r slot)) (slot_led before later o row next copies r w) (pointers_of before.held o row) object.led));
      tidy = λ t. subst (Tidy (contents_of later.held)) (sym (is t)) ((means_renamed laws before later o row next copies r w (inode_of before.held o row t) (object.pointers t)).1 (object.tidy t));
      pointers = λ t. subst (PointersHeld later.held o) (sym (is t))
          (λ k q at. slot_goes before later o row next copies r w (pointer_at (inode_of before.held o row t) k) q (object.pointers t k) (sym (laws.points r (inode_of before.held o row t) k) ∙ at));
    }

-- the names of the object's data are those that its next row gives
relocated_counts : Laws → (before later : Log) (o : ℕ) (row next : Row) (copies : List CopiedBlock) (r : RenamingFields) → Relocates before o row copies next later r → NamesMove before o row r later → Counts before later o next
relocated_counts laws before later o row next copies r w names =
    let none : next.sides ≡ [] = ap (λ (x : Row). x.sides) w.fields in
    let are : pointers_named later.held o next ≡ map (renamed_slot r) (pointers_of before.held o row) ++ [] =
    ap (λ (slots : List (Option Place)). slots ++ pointers_aside later.held o next) (pointers_renamed laws before later o row next copies r w)
    ∙ ap (λ (sides : List Side). map (renamed_slot r) (pointers_of before.held o row) ++ pointers_of_sides later.held o sides) none in
    record {
      names = names.names;
      here = λ p. names.here p ∙ sym (ap (times_led p) (are ∙ append-nil (map (renamed_slot r) (pointers_of before.held o row))));
      beside = names.beside;
      few = subst (λ (sides : List Side). length sides ≤ SIDES) (sym none) (omega arith);
    }

-- ---- the store

-- a row that is in order has a checkpoint, or else entries; so it takes a block to write what it tells
none_and_some : (n : ℕ) → 0 < n → 0 < 0 + n
none_and_some n some = omega (arith, some)

suc_and_some : (n : ℕ) → 0 < suc n
suc_and_some n = omega arith

some_moved : SomeBlocksAreNeeded → CheckpointsTakeBlocks → (place : Option Place) (read : Place → Option CheckpointFields) (c : CheckpointFields) (entries : List EntryFields) (N A : Type 0)
    → MatchOption place N (λ p. read p ≡ Some c) → MatchOption place (BeginsDead entries) (λ p. A) → 0 < moved_blocks (option_map (λ k. k.inode) (place >>= read)) entries
some_moved law takes None read c [] N A told dead = absurd dead
some_moved law takes None read c (e ∷ entries) N A told dead = none_and_some (whole_blocks (e ∷ entries)) (law 0 (map entry_length (e ∷ entries)) (suc_and_some (length (map entry_length entries))))
some_moved law takes (Some p) read c entries N A told h =
    let is : kept_blocks (option_map (λ k. k.inode) (read p)) ≡ checkpoint_blocks c.inode = ap (λ (found : Option CheckpointFields). kept_blocks (option_map (λ k. k.inode) found)) told in
    let some = takes c.inode in
    omega (arith, is, some)

relocated_changes : Laws → (s : StoreFields) (rows : List (ℕ × Row)) (log : Log) (o : ℕ) (row next : Row) (copies : List CopiedBlock) (r : RenamingFields) → IsStore s → row_of s.rows o ≡ Some row
    → Relocates s.log o row copies next log r → blocks_relocated s.log.held o row copies ≤ length s.log.ahead → IsPut s rows o row next → Counts s.log log o next
    → Changes s (next_store s rows log) o (blocks_relocated s.log.held o row copies) (Some (put_row row next))
relocated_changes laws s rows log o row next copies r store there w room put counts =
    let orderly = store.orderly o row there in
    record {
      put = put;
      here = some_keeps (next_store s rows log) o (put_row row next) (record {
        object = relocated_object laws s.log log o s.latest row next copies r w (store.objects o row there);
        orderly = laws.rest.orderly.stamp log.held o s.latest (row.stamp + 1) next (w.orderly s.latest orderly);
        counted = counts.here;
        few = counts.few;
        stamp =
            let bound = store.stamps o row there in
            let more : log.spent ≡ blocks_relocated s.log.held o row copies + s.log.spent = w.takes.spent in
            let stands = (store.objects o row there).stands in
            let some = some_moved laws.rest.blocks_are_needed laws.rest.checkpoint_blocks row.checkpoint (checkpoint_held s.log.held o) (record { object = o; moment = row.checkpoint_moment; inode = inode_of s.log.held o row row.checkpoint_moment }) (entries_of s.log.held o row)
            (row.checkpoint_moment ≡ 0) (IsFromTo row.created s.latest row.checkpoint_moment) stands.checkpoint orderly.checkpoint in
            omega (arith, bound, more, some);
      });
      gone = some_stays (put_row row next) (HasNothing log.held o);
      names = counts.names;
      beside = counts.beside;
      others = w.others;
      takes = w.takes;
      sum = sum_stays (blocks_relocated s.log.held o row copies) s.log log w.takes room;
      latest = omega arith;
      across = renewed_across s.rows rows s.log.held log.held o row (put_row row next) there put (ap (λ (x : Row). x.created) w.fields)
          (λ e among. laws.old r (entries_of s.log.held o row) e (subst (λ (es : List EntryFields). Contains es e) w.journal among))
          (λ q x beside e. same_entries s.log.held log.held q x (w.others Journal q beside))
          (record { ascending = store.ascending; apart = store.apart });
    }

relocated_inodes : Laws → (s : StoreFields) (rows : List (ℕ × Row)) (log : Log) (o count : ℕ) (row next : Row) (copies : List CopiedBlock) (r : RenamingFields) → row_of s.rows o ≡ Some row → Relocates s.log o row copies next log r
    → Changes s (next_store s rows log) o count (Some (put_row row next)) → (q t : ℕ) → inode_in (next_store s rows log) q t ≡ cond (o == q) (option_map (renamed_inode r) (inode_in s q t)) (inode_in s q t)
relocated_inodes laws s rows log o count row next copies r there w changes q t =
    changed_inodes laws.rest s (next_store s rows log) o count (Some (put_row row next)) changes q t
    ∙ ap (λ (i : Option Inode). cond (o == q) i (inode_in s q t)) (ap (λ (i : Inode). Some i) (stamped_inode log.held o next (row.stamp + 1) t ∙ w.inode t) ∙ sym (ap (λ (x : Option Row). option_map (renamed_inode r) (inode_by s.log.held o t x)) there))
    ∙ own_there o q (λ n. option_map (renamed_inode r) (inode_in s n t)) (inode_in s q t)

relocated_versions : Laws → (s : StoreFields) (rows : List (ℕ × Row)) (log : Log) (o count : ℕ) (row next : Row) (copies : List CopiedBlock) (r : RenamingFields) → IsStore s → row_of s.rows o ≡ Some row → Relocates s.log o row copies next log r
    → Changes s (next_store s rows log) o count (Some (put_row row next)) → (q t : ℕ) → version_in (next_store s rows log) q t ≡ version_in s q t
relocated_versions laws s rows log o count row next copies r store there w changes q t =
    changed_versions laws.rest s (next_store s rows log) o count (Some (put_row row next)) (store_others s o store) changes q t
    ∙ ap (λ (v : Version). cond (o == q) v (version_in s q t))
    (ap (meaning (contents_of log.held)) (stamped_inode log.held o next (row.stamp + 1) t ∙ w.inode t)
    ∙ (means_renamed laws s.log log o row next copies r w (inode_of s.log.held o row t) ((store.objects o row there).pointers t)).0
    ∙ sym (ap (λ (x : Option Row). version_by s.log.held (inode_by s.log.held o t x)) there))
    ∙ own_or_other o q (λ n. version_in s n t)

-- a data block that is there was there, or was put at a place that was taken
data_taken : (before later : Log) (o n : ℕ) (r : RenamingFields) (p : Place) → TakesPlaces n before later → IsSome (of_kind Data o later.held p) → IsOldOrNew o r before.held later.held p
    → (of_kind Data o later.held p ≡ of_kind Data o before.held p) ⊎ Contains (take n before.ahead) p
data_taken before later o n r p takes some (inl old) = inl old.0
data_taken before later o n r p takes some (inr new) = inr (takes.among p new.0 (held (later.held p) some))
  where
    held : (x : Option Stored) → IsSome (seen_as Data o x) → IsSome x
    held None h = h
    held (Some block) h = refl

relocated_made : Laws → (s : StoreFields) (rows : List (ℕ × Row)) (log : Log) (o : ℕ) (row next : Row) (copies : List CopiedBlock) → Relocates s.log o row copies next log (renaming_by copies s.log.ahead) → IsPut s rows o row next
    → IsRelocated s o row copies (next_store s rows log)
relocated_made laws s rows log o row next copies w put =
    let r : RenamingFields = renaming_by copies s.log.ahead in
    record {
      next = put_row row next;
      rest = ap (λ (x : Row). record x { stamp = row.stamp + 1 }) w.fields;
      put = put;
      journal = w.journal;
      kept = w.kept;
      pointers = pointers_renamed laws s.log log o row next copies r w;
      moved = w.moved;
      copied = λ p q is. (w.copied p q is).1;
      gone = w.gone;
      stayed = w.stayed;
      blocks = λ p some. data_taken s.log log o (blocks_relocated s.log.held o row copies) r p w.takes some (w.blocks p some);
      chains = w.chains;
      checkpoints = w.checkpoints;
      others = w.others;
      takes = w.takes;
      latest = refl;
    }

pub relocated : Laws → (s : StoreFields) (rows : List (ℕ × Row)) (log : Log) (o : ℕ) (row next : Row) (copies : List CopiedBlock) (r : RenamingFields) → IsStore s → row_of s.rows o ≡ Some row
    → Relocates s.log o row copies next log r → blocks_relocated s.log.held o row copies ≤ length s.log.ahead → IsPut s rows o row next → NamesMove s.log o row r log → RelocatesIn s o row copies (next_store s rows log)
relocated laws s rows log o row next copies r store there w room put names =
    let by : Relocates s.log o row copies next log (renaming_by copies s.log.ahead) = subst (λ (x : RenamingFields). Relocates s.log o row copies next log x) w.exact w in
    let count = blocks_relocated s.log.held o row copies in
    let changes = relocated_changes laws s rows log o row next copies r store there w room put (relocated_counts laws s.log log o row next copies r w names) in
    record {
      store = changed_store laws.rest s (next_store s rows log) o count (Some (put_row row next)) (store_others s o store) changes;
      relocated = relocated_made laws s rows log o row next copies by put;
      inodes = relocated_inodes laws s rows log o count row next copies (renaming_by copies s.log.ahead) there by changes;
      versions = relocated_versions laws s rows log o count row next copies r store there w changes;
    }

-- ---- the inode beside the row

abbrev pub with_inode : (ℕ → Option Inode) → ℕ → Inode → ℕ → Option Inode
with_inode values o i q = cond (o == q) (Some i) (values q)

pub renamed_beside : (o latest : ℕ) (r : RenamingFields) (present : Inode) (values after : ℕ → Option Inode) (s later : StoreFields) → Some present ≡ inode_in s o latest
    → ((q : ℕ) → after q ≡ with_inode values o (renamed_inode r present) q) → ((q : ℕ) → values q ≡ inode_in s q latest)
    → ((q t : ℕ) → inode_in later q t ≡ cond (o == q) (option_map (renamed_inode r) (inode_in s q t)) (inode_in s q t)) → (q : ℕ) → after q ≡ inode_in later q latest
renamed_beside o latest r present values after s later is put keeps inodes q = elim (cases_Bool (o == q)) [
  | inl same ↦
      let now : Some (renamed_inode r present) ≡ option_map (renamed_inode r) (inode_in s q latest) = subst (λ (k : ℕ). Some (renamed_inode r present) ≡ option_map (renamed_inode r) (inode_in s k latest)) (eqb-true o q same) (ap (option_map (renamed_inode r)) is) in
      put q ∙ cond-true (o == q) (Some (renamed_inode r present)) (values q) same ∙ now ∙ sym (cond-true (o == q) (option_map (renamed_inode r) (inode_in s q latest)) (inode_in s q latest) same) ∙ sym (inodes q latest)
  | inr beside ↦
      put q ∙ cond-false (o == q) (Some (renamed_inode r present)) (values q) beside ∙ keeps q ∙ sym (cond-false (o == q) (option_map (renamed_inode r) (inode_in s q latest)) (inode_in s q latest) beside) ∙ sym (inodes q latest)
]
