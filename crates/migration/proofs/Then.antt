-- What the rows of a new image come to, where all that was held of each object once it was copied is used.
use Rattle.std.proofs.Common.{◌≡◌, ℕ, ◌≤◌, ◌==◌, List, [], ◌∷◌, length, Option, Some, None, IsSome, inl, inr, refl, sym, ap, subst, ◌∙◌, suc, arith}
use Rattle.std.specs.List.{AllByRecursion}
use Rattle.std.proofs.lemmas.Bool.{cases_Bool, cond-true, cond-false}
use Rattle.s4_types.specs.Pointer.{Place}
use Rattle.block_log.specs.Log.{Log, Stored, seen_as}
use Rattle.block_log.specs.declared.kinds.BlockKind.TheVariants.{Data}
use Rattle.codec.specs.Entry.{EntryFields}
use Rattle.codec.specs.declared.inodes.Inode.{Inode}
use Rattle.codec.specs.declared.versions.ImageVersion.{ImageVersion}
use Rattle.undo_redo.specs.Runs.{inode_after}
use Rattle.object_map.specs.declared.map.Row.{Row}
use Rattle.inode.specs.Contents.{bytes_stored, contents_of, meaning}
use Rattle.inode.specs.Tidiness.{AgreeAt, PointersHeld}
use Rattle.inode.specs.Laws.{OnlyItsBlocksMatter}
use Rattle.time_read.specs.Rows.{IsRow, inode_of}
use Rattle.time_read.specs.Orderly.{IsFromTo, IsOrderly}
use Rattle.chain_rewriting.specs.Mapping.{mapped_entries}
use Rattle.chain_rewriting.specs.MappingLaws.{TheMomentsOfMappedEntriesAreOld}
use Rattle.version_store.specs.Across.{ShareNoMoment}
use Rattle.version_store.specs.Store.{IsObject}
use Rattle.version_store.specs.Versions.{version_by}
use Rattle.image_objects.specs.declared.rows.ImageRow.{ImageRow}
use Rattle.image_objects.specs.Chains.{entries_used}
use Rattle.image_objects.specs.Objects.{ObjectStands, inode_used}
use Rattle.image_objects.specs.Rows.{RowsShareNoMoment, RowsStand}
use Rattle.image_objects.specs.Saved.{HoldsUsed, IsSavedAsHeld, saved_row}
use Rattle.image_objects.specs.Versions.{ObjectStandsBy, entries_used_by, inode_used_by, RowsShareNoMomentBy}
use Rattle.image_objects.specs.Writing.{AnObjectOfAVersionCanBeWritten, inode_kept_in}
use Rattle.verifier.specs.Opened.{inode_of_rows, version_of_rows}
use Rattle.migration.specs.Copied.{data_moves}
use Rattle.migration.specs.Moves.{moved_by}
use Rattle.migration.specs.Rows.{CopiesObject, CopyRows}
use Rattle.migration.specs.Migrated.{inode_of_earlier, version_of_earlier, rows_then}
use Rattle.migration.proofs.CanCopy.{in_order_by}

-- what the crates below say
pub record Laws : Type 0 where
  pub saved : (used held : Place → Option Stored) (o : ℕ) (row : Row) → HoldsUsed used held → IsRow held o row → IsSavedAsHeld used held o row
  pub stands : (used held : Place → Option Stored) (o latest clock : ℕ) (row : Row) → HoldsUsed used held → IsObject held o row latest → IsOrderly held o row latest → latest ≤ clock → ObjectStands used (saved_row o row) clock
  pub written : AnObjectOfAVersionCanBeWritten
  pub matter : OnlyItsBlocksMatter
  pub moments : (f : Place → Place) → TheMomentsOfMappedEntriesAreOld f

-- Of images of this version.
module _ (v : ImageVersion) where
  -- what is held stays
  pub grows : (used : Place → Option Stored) (rows : List ImageRow) (laters : List Row) (before after : Log) → CopyRows v used rows laters before after → HoldsUsed after.held before.held
  grows used [] [] before after copied = λ p block held. ap (λ (l : Log). l.held p) (sym copied) ∙ held
  grows used [] (later ∷ laters) before after copied = absurd copied
  grows used (row ∷ rows) [] before after copied = absurd copied
  grows used (row ∷ rows) (later ∷ laters) before after (between, one, rest) = λ p block held. grows used rows laters between after rest p block (one.stay p block held)

  -- ---- one row

  -- One object in the new image: it is there, it has the old entries but for their places, and at each moment the old version.
  pub record IsThen (used newer : Place → Option Stored) (row : ImageRow) (later : Row) (clock : ℕ) : Type 0 where
    pub stands : ObjectStands newer (saved_row row.object later) clock
    pub created : later.created ≡ row.created
    pub to : Place → Place
    pub entries : entries_used newer (saved_row row.object later) ≡ mapped_entries to (entries_used_by v used row)
    pub versions : (t : ℕ) → meaning (contents_of newer) (inode_used newer (saved_row row.object later) t) ≡ meaning (contents_of used) (inode_used_by v used row t)

  there_is : (x : Option Stored) (o : ℕ) → IsSome (seen_as Data o x) → (block : Stored) × (x ≡ Some block)
  there_is None o some = absurd (cc)
  there_is (Some block) o some = (block, refl)

  -- bytes that are held are used
  agree : (newer held : Place → Option Stored) (o : ℕ) (i : Inode) → HoldsUsed newer held → PointersHeld held o i → AgreeAt (contents_of held) (contents_of newer) i
  agree newer held o i holds held_at k p at =
      let there = there_is (held p) o (held_at k p at) in
      ap bytes_stored (holds p there.0 there.1 ∙ sym there.1)

  pub one_then : Laws → (used newer : Place → Option Stored) (row : ImageRow) (before between : Log) (later : Row) (clock : ℕ)
      → ObjectStandsBy v used row clock → IsFromTo 1 clock row.created → HoldsUsed newer between.held → CopiesObject v used row before between later → IsThen used newer row later clock
  one_then laws used newer row before between later clock stands made holds copied =
      let o : ℕ = row.object in
      let can = laws.written v used row clock stands in
      let told = in_order_by v laws.written used row clock made stands in
      let saved : IsSavedAsHeld newer between.held o later = laws.saved newer between.held o later holds copied.is_row in
      let object : IsObject between.held o later clock = copied.objects clock told in
      record {
        stands = laws.stands newer between.held o clock clock later holds object (copied.orderly clock told) (omega arith);
        created = ap (λ (r : Row). r.created) copied.fields;
        to = moved_by (data_moves (inode_kept_in used row) (entries_used_by v used row) before);
        entries = saved.entries ∙ copied.journal;
        versions = λ t.
            ap (meaning (contents_of newer)) (saved.inodes t)
            ∙ (laws.matter (contents_of between.held) (contents_of newer) (inode_of between.held o later t) (agree newer between.held o (inode_of between.held o later t) holds (object.pointers t))).0
            ∙ copied.versions t
            ∙ ap (λ (i : Inode). meaning (contents_of used) (inode_after i (entries_used_by v used row) t)) can.first;
      }

  -- ---- all rows

  abbrev pub AreThen : (Place → Option Stored) → (Place → Option Stored) → List ImageRow → List Row → ℕ → Type 0
  AreThen used newer [] [] clock = Unit {0}
  AreThen used newer [] (later ∷ laters) clock = ⊥
  AreThen used newer (row ∷ rows) [] clock = ⊥
  AreThen used newer (row ∷ rows) (later ∷ laters) clock = IsThen used newer row later clock × AreThen used newer rows laters clock

  pub all_then : Laws → (used newer : Place → Option Stored) (rows : List ImageRow) (laters : List Row) (before after : Log) (clock : ℕ)
      → AllByRecursion (λ row. ObjectStandsBy v used row clock) rows → AllByRecursion (λ row. IsFromTo 1 clock row.created) rows → HoldsUsed newer after.held → CopyRows v used rows laters before after → AreThen used newer rows laters clock
  all_then laws used newer [] [] before after clock stand made holds copied = tt
  all_then laws used newer [] (later ∷ laters) before after clock stand made holds copied = absurd copied
  all_then laws used newer (row ∷ rows) [] before after clock stand made holds copied = absurd copied
  all_then laws used newer (row ∷ rows) (later ∷ laters) before after clock stand made holds (between, one, rest) = (
    one_then laws used newer row before between later clock stand.0 made.0 (λ p block held. holds p block (grows used rows laters between after rest p block held)) one,
    all_then laws used newer rows laters between after clock stand.1 made.1 holds rest,
  )

  pub as_many : (used : Place → Option Stored) (rows : List ImageRow) (laters : List Row) (before after : Log) → CopyRows v used rows laters before after → length laters ≡ length rows
  as_many used [] [] before after copied = refl
  as_many used [] (later ∷ laters) before after copied = absurd copied
  as_many used (row ∷ rows) [] before after copied = absurd copied
  as_many used (row ∷ rows) (later ∷ laters) before after (between, one, rest) = ap suc (as_many used rows laters between after rest)

  objects_stand : (used newer : Place → Option Stored) (rows : List ImageRow) (laters : List Row) (clock : ℕ) → AreThen used newer rows laters clock → AllByRecursion (λ row. ObjectStands newer row clock) (rows_then rows laters)
  objects_stand used newer [] [] clock are = tt
  objects_stand used newer [] (later ∷ laters) clock are = absurd are
  objects_stand used newer (row ∷ rows) [] clock are = absurd are
  objects_stand used newer (row ∷ rows) (later ∷ laters) clock are = (are.0.stands, objects_stand used newer rows laters clock are.1)

  -- ---- no moment is in two chains

  share_none : Laws → (f g : Place → Place) (es gs : List EntryFields) → ShareNoMoment es gs → ShareNoMoment (mapped_entries f es) (mapped_entries g gs)
  share_none laws f g es gs apart x y at there same =
      let was = laws.moments f es x at in
      let other = laws.moments g gs y there in
      apart was.0 other.0 was.1.0 other.1.0 (was.1.1 ∙ same ∙ sym other.1.1)

  apart_from : Laws → (used newer : Place → Option Stored) (row : ImageRow) (later : Row) (rows : List ImageRow) (laters : List Row) (clock : ℕ) → IsThen used newer row later clock → AreThen used newer rows laters clock
      → AllByRecursion (λ other. ShareNoMoment (entries_used_by v used row) (entries_used_by v used other)) rows
      → AllByRecursion (λ other. ShareNoMoment (entries_used newer (saved_row row.object later)) (entries_used newer other)) (rows_then rows laters)
  apart_from laws used newer row later [] [] clock is are apart = tt
  apart_from laws used newer row later [] (l ∷ laters) clock is are apart = absurd are
  apart_from laws used newer row later (r ∷ rows) [] clock is are apart = absurd are
  apart_from laws used newer row later (r ∷ rows) (l ∷ laters) clock is are apart = (
    subst (λ (es : List EntryFields). ShareNoMoment es (entries_used newer (saved_row r.object l))) (sym is.entries)
        (subst (λ (es : List EntryFields). ShareNoMoment (mapped_entries is.to (entries_used_by v used row)) es) (sym are.0.entries)
        (share_none laws is.to are.0.to (entries_used_by v used row) (entries_used_by v used r) apart.0)),
    apart_from laws used newer row later rows laters clock is are.1 apart.1,
  )

  rows_apart : Laws → (used newer : Place → Option Stored) (rows : List ImageRow) (laters : List Row) (clock : ℕ) → AreThen used newer rows laters clock → RowsShareNoMomentBy v used rows → RowsShareNoMoment newer (rows_then rows laters)
  rows_apart laws used newer [] [] clock are apart = tt
  rows_apart laws used newer [] (later ∷ laters) clock are apart = absurd are
  rows_apart laws used newer (row ∷ rows) [] clock are apart = absurd are
  rows_apart laws used newer (row ∷ rows) (later ∷ laters) clock are apart = (apart_from laws used newer row later rows laters clock are.0 are.1 apart.0, rows_apart laws used newer rows laters clock are.1 apart.1)

  pub rows_stand : Laws → (used newer : Place → Option Stored) (rows : List ImageRow) (laters : List Row) (clock : ℕ) → AreThen used newer rows laters clock → RowsShareNoMomentBy v used rows → RowsStand newer (rows_then rows laters) clock
  rows_stand laws used newer rows laters clock are apart = record { objects = objects_stand used newer rows laters clock are; apart = rows_apart laws used newer rows laters clock are apart }

  -- ---- versions

  pub same_versions : (used newer : Place → Option Stored) (rows : List ImageRow) (laters : List Row) (clock o t : ℕ) → AreThen used newer rows laters clock → version_of_rows newer (rows_then rows laters) o t ≡ version_of_earlier v used rows o t
  same_versions used newer [] [] clock o t are = refl
  same_versions used newer [] (later ∷ laters) clock o t are = absurd are
  same_versions used newer (row ∷ rows) [] clock o t are = absurd are
  same_versions used newer (row ∷ rows) (later ∷ laters) clock o t are =
      let then : Inode = inode_used newer (saved_row row.object later) t in
      let was : Inode = inode_used_by v used row t in
      elim (cases_Bool (row.object == o)) [
        | inl here ↦ ap (version_by newer) (cond-true (row.object == o) (Some then) (inode_of_rows newer (rows_then rows laters) o t) here)
            ∙ are.0.versions t
            ∙ sym (ap (version_by used) (cond-true (row.object == o) (Some was) (inode_of_earlier v used rows o t) here))
        | inr not ↦ ap (version_by newer) (cond-false (row.object == o) (Some then) (inode_of_rows newer (rows_then rows laters) o t) not)
            ∙ same_versions used newer rows laters clock o t are.1
            ∙ sym (ap (version_by used) (cond-false (row.object == o) (Some was) (inode_of_earlier v used rows o t) not))
      ]
