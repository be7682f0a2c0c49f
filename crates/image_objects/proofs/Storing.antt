-- Rows that stand make a store of a drive, where just what they name is held.
use Rattle.std.proofs.Common.{◌≡◌, ℕ, ◌+◌, ◌^◌, ◌<◌, List, length, Option, Some, None, refl, sym, ap, ◌∙◌, subst, arith}
use Rattle.std.specs.List.{Contains}
use Rattle.std.proofs.lemmas.Option.{none-some}
use Rattle.s4_types.specs.Pointer.{Place}
use Rattle.block_log.specs.Log.{Log, Stored, NamesAreOfData, of_kind}
use Rattle.block_log.specs.declared.kinds.BlockKind.{BlockKind}
use Rattle.codec.specs.Entry.{EntryFields}
use Rattle.object_map.specs.declared.map.Row.{Row}
use Rattle.object_map.specs.Rows.{row_of}
use Rattle.time_read.specs.Rows.{entries_of}
use Rattle.time_read.specs.Orderly.{IsOrderly}
use Rattle.version_store.specs.Across.{MakingsAscend, ShareNoMoment, ChainsShareNoMoment}
use Rattle.version_store.specs.Store.{IsObject, IsStore}
use Rattle.image_objects.specs.declared.rows.ImageRow.{ImageRow}
use Rattle.image_objects.specs.Chains.{entries_used}
use Rattle.image_objects.specs.VersionChain.{kept_row}
use Rattle.image_objects.specs.Naming.{IsNamedBy, HoldsWhatIsNamed, NamesAreCounted}
use Rattle.image_objects.specs.Rows.{RowsAscend, RowsStand, kept_rows}
use Rattle.image_objects.specs.Laws.{IsHeldAsUsed}
use Rattle.image_objects.proofs.Listed.{made_later, apart_rows}
use Rattle.image_objects.proofs.HeldByName.{Seen, seen}
use Rattle.image_objects.proofs.Kept.{row_found, row_there}
use Rattle.image_objects.proofs.Named.{OneName}
use Rattle.image_objects.proofs.Standing.{CheckpointIsTold}
use Rattle.image_objects.proofs.Told.{IsCounted, row_counted}

-- each object is held as it stands: the law of one object
abbrev pub AreHeldAsUsed : Type 0
AreHeldAsUsed = (used held : Place → Option Stored) (rows : List ImageRow) (row : ImageRow) (clock stamp : ℕ) → RowsAscend clock 0 0 rows → RowsStand used rows clock → HoldsWhatIsNamed used held rows → Contains rows row
    → IsHeldAsUsed used held row clock stamp

-- a row that is found is one of the image's, whose object is held as it stands
record Found (used held : Place → Option Stored) (rows : List ImageRow) (clock o : ℕ) (found : Row) : Type 0 where
  row : ImageRow
  listed : Contains rows row
  object : row.object ≡ o
  kept : kept_row used row 0 ≡ found
  as_used : IsHeldAsUsed used held row clock 0

found_row : AreHeldAsUsed → (used held : Place → Option Stored) (rows : List ImageRow) (clock o : ℕ) (found : Row) → RowsAscend clock 0 0 rows → RowsStand used rows clock → HoldsWhatIsNamed used held rows
    → row_of (kept_rows used rows) o ≡ Some found → Found used held rows clock o found
found_row one used held rows clock o found ascend stand holds at =
    let (row, listed, object, kept) = row_found used rows o found at in
    record { row = row; listed = listed; object = object; kept = sym kept; as_used = one used held rows row clock 0 ascend stand holds listed }

-- what is so of its object and the row that is kept is so of this object and the row that was found
of_found : (P : ℕ → Row → Type 0) (used held : Place → Option Stored) (rows : List ImageRow) (clock o : ℕ) (found : Row) (f : Found used held rows clock o found) → P f.row.object (kept_row used f.row 0) → P o found
of_found P used held rows clock o found f h = subst (λ (r : Row). P o r) f.kept (subst (λ n. P n (kept_row used f.row 0)) f.object h)

none_held : (used held : Place → Option Stored) (rows : List ImageRow) (clock o : ℕ) (kind : BlockKind) (p : Place) (bytes : Option (List ℕ)) → RowsAscend clock 0 0 rows → HoldsWhatIsNamed used held rows
    → row_of (kept_rows used rows) o ≡ None → of_kind kind o held p ≡ bytes → bytes ≡ None
none_held used held rows clock o kind p None ascend holds none is = refl
none_held used held rows clock o kind p (Some bytes) ascend holds none is =
    let s : Seen kind o (held p) bytes = seen kind o (held p) bytes is in
    let n : IsNamedBy used rows p s.block = holds.named p s.block s.there in
    let here : row_of (kept_rows used rows) o ≡ Some (kept_row used n.row 0) = ap (row_of (kept_rows used rows)) (sym (n.object ∙ s.object)) ∙ row_there used clock 0 0 rows n.row ascend n.listed in
    absurd (none-some (kept_row used n.row 0) (sym none ∙ here))

makings : AreHeldAsUsed → (used held : Place → Option Stored) (rows : List ImageRow) (clock : ℕ) → RowsAscend clock 0 0 rows → RowsStand used rows clock → HoldsWhatIsNamed used held rows → MakingsAscend (kept_rows used rows)
makings one used held rows clock ascend stand holds o q first second less at there =
    let a : Found used held rows clock o first = found_row one used held rows clock o first ascend stand holds at in
    let b : Found used held rows clock q second = found_row one used held rows clock q second ascend stand holds there in
    let later : a.row.created < b.row.created = made_later clock 0 0 rows a.row b.row ascend a.listed b.listed (omega (arith, a.object, b.object, less)) in
    let early : a.row.created ≡ first.created = ap (λ (r : Row). r.created) a.kept in
    let late : b.row.created ≡ second.created = ap (λ (r : Row). r.created) b.kept in
    omega (arith, later, early, late)

chains : AreHeldAsUsed → (used held : Place → Option Stored) (rows : List ImageRow) (clock : ℕ) → RowsAscend clock 0 0 rows → RowsStand used rows clock → HoldsWhatIsNamed used held rows → ChainsShareNoMoment held (kept_rows used rows)
chains one used held rows clock ascend stand holds o q first second less at there =
    let a : Found used held rows clock o first = found_row one used held rows clock o first ascend stand holds at in
    let b : Found used held rows clock q second = found_row one used held rows clock q second ascend stand holds there in
    let apart : ShareNoMoment (entries_used used a.row) (entries_used used b.row) = apart_rows used clock 0 0 rows a.row b.row ascend stand.apart a.listed b.listed (omega (arith, a.object, b.object, less)) in
    let P : ℕ → Row → Type 0 = λ n r. entries_of held n r ≡ entries_used used a.row in
    let Q : ℕ → Row → Type 0 = λ n r. entries_of held n r ≡ entries_used used b.row in
    let early : entries_of held o first ≡ entries_used used a.row = of_found P used held rows clock o first a a.as_used.entries in
    let late : entries_of held q second ≡ entries_used used b.row = of_found Q used held rows clock q second b b.as_used.entries in
    subst (λ (es : List EntryFields). ShareNoMoment es (entries_of held q second)) (sym early) (subst (λ (es : List EntryFields). ShareNoMoment (entries_used used a.row) es) (sym late) apart)

held_store : OneName → CheckpointIsTold → AreHeldAsUsed → (used : Place → Option Stored) (rows : List ImageRow) (clock : ℕ) (log : Log) → RowsAscend clock 0 0 rows → RowsStand used rows clock → HoldsWhatIsNamed used log.held rows → NamesAreOfData log
    → NamesAreCounted used log.named rows → log.spent + length log.ahead < 2 ^ 46 → IsStore (record { rows = kept_rows used rows; log = log; latest = clock })
held_store names told one used rows clock log ascend stand holds of_data counted bounded =
    let found : (o : ℕ) (row : Row) → row_of (kept_rows used rows) o ≡ Some row → Found used log.held rows clock o row = λ o row at. found_row one used log.held rows clock o row ascend stand holds at in
    record {
      objects = λ o row at. let f = found o row at in of_found (λ n r. IsObject log.held n r clock) used log.held rows clock o row f f.as_used.object;
      orderly = λ o row at. let f = found o row at in of_found (λ n r. IsOrderly log.held n r clock) used log.held rows clock o row f f.as_used.orderly;
      names = of_data;
      counted = λ o row at. let f = found o row at in of_found (IsCounted log) used log.held rows clock o row f (row_counted names told used rows clock log f.row ascend stand holds counted f.listed f.as_used);
      few = λ o row at. let no_sides : 0 ≡ length row.sides = ap (λ (r : Row). length r.sides) (found o row at).kept in omega (arith, no_sides);
      nothing = λ o none kind p. none_held used log.held rows clock o kind p (of_kind kind o log.held p) ascend holds none refl;
      stamps = λ o row at. let zero_stamp : 0 ≡ row.stamp = ap (λ (r : Row). r.stamp) (found o row at).kept in omega (arith, zero_stamp);
      bounded = bounded;
      ascending = makings one used log.held rows clock ascend stand holds;
      apart = chains one used log.held rows clock ascend stand holds;
    }

pub make_a_store : OneName → CheckpointIsTold → AreHeldAsUsed → (used held : Place → Option Stored) (rows : List ImageRow) (clock : ℕ) (log : Log) → RowsAscend clock 0 0 rows → RowsStand used rows clock → HoldsWhatIsNamed used held rows → log.held ≡ held
    → NamesAreOfData log → NamesAreCounted used log.named rows → log.spent + length log.ahead < 2 ^ 46 → IsStore (record { rows = kept_rows used rows; log = log; latest = clock })
make_a_store names told one used held rows clock log ascend stand holds is of_data counted bounded =
    held_store names told one used rows clock log ascend stand (subst (λ (view : Place → Option Stored). HoldsWhatIsNamed used view rows) (sym is) holds) of_data counted bounded
