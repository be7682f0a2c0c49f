-- The rows of a store are in the image that it is saved as.
use Rattle.std.proofs.Common.{◌≡◌, ◌⊎◌, inl, inr, ℕ, ◌+◌, ◌<◌, ◌≤◌, true, Bool, List, [], ◌∷◌, Option, Some, IsSome, is_some, refl, sym, ap, ◌∙◌, subst, arith}
use Rattle.std.specs.List.{Contains, AllByRecursion}
use Rattle.std.proofs.lemmas.Bool.{or_cases, or_left}
use Rattle.std.proofs.lemmas.List.Folds.{list_any-append}
use Rattle.s4_types.specs.Pointer.{Place}
use Rattle.lemmas.proofs.Option.{value_there}
use Rattle.lemmas.proofs.Contains.{contains_first, contains_later}
use Rattle.block_log.specs.Log.{Stored, of_kind, seen_as, same_place}
use Rattle.block_log.specs.declared.kinds.BlockKind.{BlockKind}
use Rattle.block_log.specs.declared.kinds.BlockKind.TheVariants.{Journal, Checkpoint, Data, Pointers}
use Rattle.codec.specs.Checkpoint.{CheckpointFields}
use Rattle.codec.specs.Entry.{EntryFields}
use Rattle.codec.specs.Fields.{bit}
use Rattle.journal_chain.specs.Chain.{times, chain_places}
use Rattle.object_map.specs.declared.map.Row.{Row}
use Rattle.object_map.specs.Rows.{row_of}
use Rattle.codec.proofs.Fronts.{bit_most}
use Rattle.time_read.specs.Rows.{IsRow, inode_of, entries_of, all_places_of, checkpoint_places_of, side_places}
use Rattle.time_read.specs.Orderly.{IsOrderly}
use Rattle.version_store.specs.Across.{ShareNoMoment}
use Rattle.version_store.specs.Store.{StoreFields, IsObject, IsStore, Names, IsNamed}
use Rattle.version_store.specs.Laws.{HeldIsWhatRowsName, EachHeldBlockIsNamed}
use Rattle.image_objects.specs.declared.rows.ImageRow.{ImageRow}
use Rattle.image_objects.specs.Chains.{entries_used}
use Rattle.image_objects.specs.Inodes.{checkpoint_places_used}
use Rattle.image_objects.specs.Objects.{ObjectStands}
use Rattle.image_objects.specs.Naming.{NamesUsed, IsNamedBy}
use Rattle.image_objects.specs.Rows.{RowsAscend, RowsShareNoMoment, RowsStand}
use Rattle.image_objects.specs.Saved.{HoldsUsed, HoldsWhatIsSaved, IsAside, IsSavedAsHeld, ObjectsAscend, saved_row, saved_rows}
use Rattle.image_objects.proofs.HeldByName.{Seen, seen, kind_named}
use Rattle.image_objects.proofs.SavedRows.{object_from, listed_found, found_listed, is_saved, was_saved, all_saved, saved_ascend}
use Rattle.checkpoint.specs.Held.{of_checkpoints, is_checkpoint_kind, is_one_of, HasItsBlocks}
use Rattle.checkpoint.proofs.OwnBlocks.{IsOwn, seen_own, has_some}
use Rattle.row_changes.proofs.Places.{CheckpointLaws}
use Rattle.image_objects.proofs.Checkpoints.{blocks_at, same_checkpoint_places}
use Rattle.image_objects.proofs.Using.{used_too}
use Rattle.image_objects.proofs.Saving.{walked, same_places, saved_as_held}

-- each object that is held stands: the law of one object
abbrev pub EachStands : Type 0
EachStands = (used held : Place → Option Stored) (o latest clock : ℕ) (row : Row) → HoldsUsed used held → IsObject held o row latest → IsOrderly held o row latest → latest ≤ clock
    → ObjectStands used (saved_row o row) clock

-- the rows of two objects share no moment, as they are saved
abbrev pub SavedApart : (Place → Option Stored) → List (ℕ × Row) → Type 0
SavedApart used rows = (a b : ℕ × Row) → Contains rows a → Contains rows b → a.0 < b.0 → ShareNoMoment (entries_used used (saved_row a.0 a.1)) (entries_used used (saved_row b.0 b.1))

saved_apart : (used : Place → Option Stored) (low : ℕ) (rows : List (ℕ × Row)) → ObjectsAscend low rows → SavedApart used rows → RowsShareNoMoment used (saved_rows rows)
saved_apart used low [] ascend apart = tt
saved_apart used low (x ∷ rows) ascend apart =
    let P : ImageRow → Type 0 = λ other. ShareNoMoment (entries_used used (saved_row x.0 x.1)) (entries_used used other) in
    let first : AllByRecursion P (saved_rows rows) = all_saved P rows (λ e there. let from = object_from (x.0 + 1) rows e ascend.1 there in apart x e (contains_first x rows) (contains_later x rows e there) (omega (arith, from))) in
    (first, saved_apart used (x.0 + 1) rows ascend.1 (λ a b one other less. apart a b (contains_later x rows a one) (contains_later x rows b other) less))

-- a row that is listed tells over the used blocks what it told
same_listed : CheckpointLaws → (used : Place → Option Stored) (s : StoreFields) (low : ℕ) (e : ℕ × Row) → IsStore s → HoldsUsed used s.log.held → ObjectsAscend low s.rows → Contains s.rows e → IsSavedAsHeld used s.log.held e.0 e.1
same_listed laws used s low e store holds ascend there = saved_as_held laws used s.log.held e.0 e.1 holds (store.objects e.0 e.1 (listed_found low s.rows e ascend there)).stands

chains_apart : CheckpointLaws → (used : Place → Option Stored) (s : StoreFields) (low : ℕ) → IsStore s → HoldsUsed used s.log.held → ObjectsAscend low s.rows → SavedApart used s.rows
chains_apart laws used s low store holds ascend a b first second less =
    let apart = store.apart a.0 b.0 a.1 b.1 less (listed_found low s.rows a ascend first) (listed_found low s.rows b ascend second) in
    let early : entries_of s.log.held a.0 a.1 ≡ entries_used used (saved_row a.0 a.1) = sym (same_listed laws used s low a store holds ascend first).entries in
    let late : entries_of s.log.held b.0 b.1 ≡ entries_used used (saved_row b.0 b.1) = sym (same_listed laws used s low b store holds ascend second).entries in
    subst (λ (es : List EntryFields). ShareNoMoment (entries_used used (saved_row a.0 a.1)) es) late (subst (λ (es : List EntryFields). ShareNoMoment es (entries_of s.log.held b.0 b.1)) early apart)

pub store_stands : CheckpointLaws → EachStands → (used : Place → Option Stored) (s : StoreFields) (low clock : ℕ) → IsStore s → s.latest ≤ clock → HoldsUsed used s.log.held → ObjectsAscend low s.rows → RowsStand used (saved_rows s.rows) clock
store_stands laws each used s low clock store by holds ascend =
    let P : ImageRow → Type 0 = λ row. ObjectStands used row clock in
    record {
      objects = all_saved P s.rows
          (λ e there. let found = listed_found low s.rows e ascend there in each used s.log.held e.0 s.latest clock e.1 holds (store.objects e.0 e.1 found) (store.orderly e.0 e.1 found) by);
      apart = saved_apart used low s.rows ascend (chains_apart laws used s low store holds ascend);
    }

pub store_ascends : (used : Place → Option Stored) (s : StoreFields) (low clock : ℕ) → IsStore s → s.latest ≤ clock → HoldsUsed used s.log.held → ObjectsAscend low s.rows → RowsAscend clock 0 0 (saved_rows s.rows)
store_ascends used s low clock store by holds ascend =
    saved_ascend clock 0 0 low s.rows ascend
    (λ e there.
    (let found = listed_found low s.rows e ascend there in
    let object = (store.objects e.0 e.1 found).stands.object in
    let made = (store.orderly e.0 e.1 found).made in
    let from = made.0 in
    let to = made.1 in
    (object, from, omega (arith, to, by))))
    (λ a b first second less. store.ascending a.0 b.0 a.1 b.1 less (listed_found low s.rows a ascend first) (listed_found low s.rows b ascend second))

-- ---- what is held is what the rows name

-- a block of a checkpoint that is held is used as that
used_here : (used held : Place → Option Stored) (k : BlockKind) (o : ℕ) (p : Place) → HoldsUsed used held → IsSome (of_kind k o held p) → IsSome (of_kind k o used p)
used_here used held k o p holds some =
    let (bytes, is) = value_there (of_kind k o held p) some in
    ap is_some (used_too used held k o p bytes holds is)

-- what a row names of what is held it names of what is used, but for the blocks of older checkpoints
abbrev NamesOrAside : (Place → Option Stored) → (Place → Option Stored) → ℕ → Row → BlockKind → Place → Type 0
NamesOrAside used held o row k p = NamesUsed used (saved_row o row) k p ⊎ ((is_checkpoint_kind k ≡ true) × (is_one_of (side_places (of_checkpoints o held) row.sides) p ≡ true))

checkpoint_used_or_aside : CheckpointLaws → (used held : Place → Option Stored) (o : ℕ) (row : Row) (k : BlockKind) (p : Place) → HoldsUsed used held → IsRow held o row → is_checkpoint_kind k ≡ true → is_one_of (all_places_of held o row) p ≡ true → IsSome (of_kind k o held p)
    → NamesOrAside used held o row k p
checkpoint_used_or_aside laws used held o row k p holds stands own is some =
    let newest = checkpoint_places_of held o row in
    let older = side_places (of_checkpoints o held) row.sides in
    elim (or_cases (is_one_of newest p) (is_one_of older p) (sym (list_any-append (λ q. same_place q p) newest older) ∙ is)) [
      | inl here ↦ inl (kind_named used (saved_row o row) p k own (ap (λ (places : List Place). is_one_of places p) (same_checkpoint_places laws used held o row holds stands) ∙ here) (used_here used held k o p holds some))
      | inr aside ↦ inr (own, aside)
    ]

names_used : CheckpointLaws → (used held : Place → Option Stored) (o : ℕ) (row : Row) (k : BlockKind) (p : Place) → HoldsUsed used held → IsRow held o row → Names held o row k p → NamesOrAside used held o row k p
names_used laws used held o row Journal p holds stands names =
    let places : chain_places (of_kind Journal o used) o row.head ≡ chain_places (of_kind Journal o held) o row.head = same_places used held o row (walked used held o row holds stands) in
    let count : times p (chain_places (of_kind Journal o used) o row.head) ≡ 1 = ap (λ (ps : List Place). times p ps) places ∙ names in
    inl (omega (arith, count))
names_used laws used held o row Checkpoint p holds stands names = checkpoint_used_or_aside laws used held o row Checkpoint p holds stands refl names.0 names.1
names_used laws used held o row Data p holds stands names = inl (subst (λ (slots : List (Option Place)). Contains slots (Some p)) (sym (saved_as_held laws used held o row holds stands).pointers) names)
names_used laws used held o row Pointers p holds stands names = checkpoint_used_or_aside laws used held o row Pointers p holds stands refl names.0 names.1

-- what is named of a row's newest checkpoint is held
has_blocks : CheckpointLaws → (held : Place → Option Stored) (o : ℕ) (row : Row) → IsRow held o row → HasItsBlocks held o row.checkpoint
has_blocks laws held o row stands =
    let c : CheckpointFields = record { object = o; moment = row.checkpoint_moment; inode = inode_of held o row row.checkpoint_moment } in
    blocks_at laws held o (row.checkpoint_moment ≡ 0) c row.checkpoint stands.checkpoint

checkpoint_held_too : CheckpointLaws → (used held : Place → Option Stored) (o : ℕ) (row : Row) (k : BlockKind) (p : Place) → HoldsUsed used held → IsRow held o row → is_one_of (checkpoint_places_used used (saved_row o row)) p ≡ true → IsSome (of_kind k o used p)
    → (is_one_of (all_places_of held o row) p ≡ true) × IsSome (of_kind k o held p)
checkpoint_held_too laws used held o row k p holds stands is some =
    let newest = checkpoint_places_of held o row in
    let older = side_places (of_checkpoints o held) row.sides in
    let here : is_one_of newest p ≡ true = sym (ap (λ (places : List Place). is_one_of places p) (same_checkpoint_places laws used held o row holds stands)) ∙ is in
    let own : IsOwn o (held p) = seen_own o (held p) (has_some (of_checkpoints o held p) (has_blocks laws held o row stands p here)) in
    let same : held p ≡ used p = own.is ∙ sym (holds p own.block own.is) in
    (list_any-append (λ q. same_place q p) newest older ∙ or_left (is_one_of newest p) (is_one_of older p) here, ap (λ (there : Option Stored). is_some (seen_as k o there)) same ∙ some)

names_held : CheckpointLaws → (used held : Place → Option Stored) (o : ℕ) (row : Row) (k : BlockKind) (p : Place) → HoldsUsed used held → IsRow held o row → NamesUsed used (saved_row o row) k p → Names held o row k p
names_held laws used held o row Journal p holds stands names =
    let places : chain_places (of_kind Journal o used) o row.head ≡ chain_places (of_kind Journal o held) o row.head = same_places used held o row (walked used held o row holds stands) in
    let count : times p (chain_places (of_kind Journal o used) o row.head) ≡ times p (chain_places (of_kind Journal o held) o row.head) = ap (λ (ps : List Place). times p ps) places in
    let there : Bool = is_some (of_kind Journal o held p) in
    let once : times p (chain_places (of_kind Journal o held) o row.head) ≡ bit there = stands.chain.once p in
    let few = bit_most there in
    omega (arith, names, count, once, few)
names_held laws used held o row Checkpoint p holds stands names = checkpoint_held_too laws used held o row Checkpoint p holds stands names.0 names.1
names_held laws used held o row Data p holds stands names = subst (λ (slots : List (Option Place)). Contains slots (Some p)) (saved_as_held laws used held o row holds stands).pointers names
names_held laws used held o row Pointers p holds stands names = checkpoint_held_too laws used held o row Pointers p holds stands names.0 names.1

named_by : CheckpointLaws → EachHeldBlockIsNamed → (used : Place → Option Stored) (s : StoreFields) (p : Place) (block : Stored) → IsStore s → HoldsUsed used s.log.held → s.log.held p ≡ Some block → IsNamedBy used (saved_rows s.rows) p block ⊎ IsAside s p block
named_by laws law used s p block store holds here =
    let n : IsNamed s block.object block.kind p = law s p block store here in
    let o = block.object in
    elim (names_used laws used s.log.held o n.row block.kind p holds (store.objects o n.row n.there).stands n.names) [
      | inl names ↦ inl (record {
        row = saved_row o n.row;
        listed = is_saved s.rows (o, n.row) (found_listed s.rows o n.row n.there);
        object = refl;
        names = names;
      })
      | inr aside ↦ inr (record { row = n.row; there = n.there; kind = aside.0; among = aside.1 })
    ]

-- a block is held where one that is used there is named by a row that is listed
held_of : CheckpointLaws → HeldIsWhatRowsName → (used : Place → Option Stored) (s : StoreFields) (low : ℕ) (e : ℕ × Row) (p : Place) (block : Stored) → IsStore s → HoldsUsed used s.log.held → ObjectsAscend low s.rows → Contains s.rows e
    → used p ≡ Some block → NamesUsed used (saved_row e.0 e.1) block.kind p → s.log.held p ≡ Some block
held_of laws law used s low e p block store holds ascend there here names =
    let found : row_of s.rows e.0 ≡ Some e.1 = listed_found low s.rows e ascend there in
    let n : IsNamed s e.0 block.kind p = record { row = e.1; there = found; names = names_held laws used s.log.held e.0 e.1 block.kind p holds (store.objects e.0 e.1 found).stands names } in
    let (bytes, is) = value_there (of_kind block.kind e.0 s.log.held p) ((law s e.0 block.kind p store).1 n) in
    let b : Seen block.kind e.0 (s.log.held p) bytes = seen block.kind e.0 (s.log.held p) bytes is in
    b.there ∙ sym (holds p b.block b.there) ∙ here

held_by : CheckpointLaws → HeldIsWhatRowsName → (used : Place → Option Stored) (s : StoreFields) (low : ℕ) (p : Place) (block : Stored) → IsStore s → HoldsUsed used s.log.held → ObjectsAscend low s.rows
    → used p ≡ Some block → IsNamedBy used (saved_rows s.rows) p block → s.log.held p ≡ Some block
held_by laws law used s low p block store holds ascend here n =
    let (e, there, same) = was_saved s.rows n.row n.listed in
    held_of laws law used s low e p block store holds ascend there here (subst (λ (r : ImageRow). NamesUsed used r block.kind p) (sym same) n.names)

pub holds_what_is_named : CheckpointLaws → HeldIsWhatRowsName → EachHeldBlockIsNamed → (used : Place → Option Stored) (s : StoreFields) (low : ℕ) → IsStore s → HoldsUsed used s.log.held → ObjectsAscend low s.rows
    → HoldsWhatIsSaved used s
holds_what_is_named laws exact each used s low store holds ascend =
    record {
      kept = holds;
      named = λ p block here. named_by laws each used s p block store holds here;
      all = λ p block here n. held_by laws exact used s low p block store holds ascend here n;
    }
