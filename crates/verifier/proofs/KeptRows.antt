-- The rows of an image that was read, and the objects that a drive keeps of them.
use Rattle.std.proofs.Common.{◌≡◌, ℕ, ◌<◌, List, [], ◌∷◌, Option, refl, sym, ap, subst, ◌∙◌, arith}
use Rattle.std.specs.List.{All, Contains, AllByRecursion}
use Rattle.std.proofs.lemmas.List.Elements.{All-nil, All-cons, Contains-append_left, Contains-append_right}
use Rattle.s4_types.specs.Pointer.{Place}
use Rattle.block_log.specs.Log.{Stored}
use Rattle.codec.specs.Entry.{EntryFields}
use Rattle.object_map.specs.declared.map.Row.{Row}
use Rattle.time_read.specs.Rows.{entries_of, inode_of}
use Rattle.version_store.specs.Opening.{OpenedFields, IndexesEntries, FitsItsRow, AscendAbove, NumbersAscend, numbers_opened, rows_opened}
use Rattle.image_parts.specs.declared.headers.Header.{Header}
use Rattle.image_parts.specs.declared.rows.RowPart.{RowPart}
use Rattle.image_parts.specs.Rows.{RowsFollow}
use Rattle.image_objects.specs.declared.rows.ImageRow.{ImageRow}
use Rattle.image_objects.specs.VersionChain.{kept_row}
use Rattle.image_objects.specs.Rows.{RowsAscend, kept_rows}
use Rattle.image_objects.specs.Laws.{IsHeldAsUsed}
use Rattle.verifier.specs.Rows.{SpellRows}
use Rattle.verifier.specs.Reading.{IsKept, AreKept}

-- ---- the rules of rows

pub rows_ascend : (h : Header) (object created : ℕ) (parts : List RowPart) (rows : List ImageRow) → RowsFollow h object created parts → SpellRows parts rows → RowsAscend h.clock object created rows
rows_ascend h object created [] [] follow spelled = tt
rows_ascend h object created [] (row ∷ rows) follow spelled = absurd spelled
rows_ascend h object created (part ∷ parts) [] follow spelled = absurd spelled
rows_ascend h object created (part ∷ parts) (row ∷ rows) follow spelled =
    let rest : RowsAscend h.clock part.object part.created rows = rows_ascend h part.object part.created parts rows follow.1 spelled.1 in
    let O : ℕ → Type 0 = λ n. RowsAscend h.clock n part.created rows in
    let C : ℕ → Type 0 = λ n. RowsAscend h.clock row.object n rows in
    (omega (arith, spelled.0.object, follow.0.ascends), omega (arith, spelled.0.created, follow.0.later), omega (arith, spelled.0.created, follow.0.made), subst C (sym spelled.0.created) (subst O (sym spelled.0.object) rest))

pub rows_given : (h : Header) (object created : ℕ) (parts : List RowPart) (rows : List ImageRow) → RowsFollow h object created parts → SpellRows parts rows → AllByRecursion (λ row. row.object < h.next) rows
rows_given h object created [] [] follow spelled = tt
rows_given h object created [] (row ∷ rows) follow spelled = absurd spelled
rows_given h object created (part ∷ parts) [] follow spelled = absurd spelled
rows_given h object created (part ∷ parts) (row ∷ rows) follow spelled = (omega (arith, spelled.0.object, follow.0.given), rows_given h part.object part.created parts rows follow.1 spelled.1)

-- ---- what is kept of them

pub rows_listed : (used : Place → Option Stored) (rows : List ImageRow) (objects : List OpenedFields) → AreKept used rows objects → rows_opened objects ≡ kept_rows used rows
rows_listed used [] [] kept = refl
rows_listed used [] (x ∷ objects) kept = absurd kept
rows_listed used (row ∷ rows) [] kept = absurd kept
rows_listed used (row ∷ rows) (x ∷ objects) kept =
    ap (λ (n : ℕ). (n, x.row) ∷ rows_opened objects) kept.0.object ∙ ap (λ (r : Row). (row.object, r) ∷ rows_opened objects) kept.0.row
    ∙ ap (λ (l : List (ℕ × Row)). (row.object, kept_row used row 0) ∷ l) (rows_listed used rows objects kept.1)

numbers_above : (used : Place → Option Stored) (clock low created : ℕ) (rows : List ImageRow) (objects : List OpenedFields) → RowsAscend clock low created rows → AreKept used rows objects → AscendAbove low (numbers_opened objects)
numbers_above used clock low created [] [] ascend kept = tt
numbers_above used clock low created [] (x ∷ objects) ascend kept = absurd kept
numbers_above used clock low created (row ∷ rows) [] ascend kept = absurd kept
numbers_above used clock low created (row ∷ rows) (x ∷ objects) ascend kept =
    let A : ℕ → Type 0 = λ n. AscendAbove n (numbers_opened objects) in
    (omega (arith, kept.0.object, ascend.0), subst A (sym kept.0.object) (numbers_above used clock row.object row.created rows objects ascend.3 kept.1))

from_first : (low : ℕ) (numbers : List ℕ) → AscendAbove low numbers → NumbersAscend numbers
from_first low [] ascend = tt
from_first low (number ∷ numbers) ascend = ascend.1

pub numbers_ascend : (used : Place → Option Stored) (clock : ℕ) (rows : List ImageRow) (objects : List OpenedFields) → RowsAscend clock 0 0 rows → AreKept used rows objects → NumbersAscend (numbers_opened objects)
numbers_ascend used clock rows objects ascend kept = from_first 0 (numbers_opened objects) (numbers_above used clock 0 0 rows objects ascend kept)

-- an object that is kept fits its row, where it is held as it is used
one_fits : (used held : Place → Option Stored) (row : ImageRow) (clock : ℕ) (x : OpenedFields) → IsKept used row x → IsHeldAsUsed used held row clock 0 → FitsItsRow held clock x
one_fits used held row clock x kept as_used =
    let I : ℕ → Type 0 = λ n. x.inode ≡ inode_of held n x.row clock in
    let J : Row → Type 0 = λ r. x.inode ≡ inode_of held row.object r clock in
    let E : List EntryFields → Type 0 = λ entries. IndexesEntries x entries in
    let F : ℕ → Type 0 = λ n. IndexesEntries x (entries_of held n x.row) in
    let G : Row → Type 0 = λ r. IndexesEntries x (entries_of held row.object r) in
    record {
      inode = subst I (sym kept.object) (subst J (sym kept.row) (kept.inode ∙ sym as_used.present));
      entries = subst F (sym kept.object) (subst G (sym kept.row) (subst E (sym as_used.entries) kept.entries));
    }

pub listed_first : (row : ImageRow) (rows : List ImageRow) → Contains (row ∷ rows) row
listed_first row rows = Contains-append_left (row ∷ []) rows row (0, omega arith, refl)

pub listed_later : (first : ImageRow) (rows : List ImageRow) (row : ImageRow) → Contains rows row → Contains (first ∷ rows) row
listed_later first rows row there = Contains-append_right (first ∷ []) rows row there

pub all_fit : (used held : Place → Option Stored) (clock : ℕ) (rows : List ImageRow) (objects : List OpenedFields) → AreKept used rows objects → ((row : ImageRow) → Contains rows row → IsHeldAsUsed used held row clock 0)
    → All (FitsItsRow held clock) objects
all_fit used held clock [] [] kept each = All-nil (FitsItsRow held clock)
all_fit used held clock [] (x ∷ objects) kept each = absurd kept
all_fit used held clock (row ∷ rows) [] kept each = absurd kept
all_fit used held clock (row ∷ rows) (x ∷ objects) kept each =
    All-cons (FitsItsRow held clock) x objects (one_fits used held row clock x kept.0 (each row (listed_first row rows)))
    (all_fit used held clock rows objects kept.1 (λ other there. each other (listed_later row rows other there)))
