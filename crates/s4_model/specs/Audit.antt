-- What was accepted, a row for each change.
use Rattle.std.specs.Prelude.{◌≡◌, ℕ, ◌+◌, ◌<◌, ◌≤◌, Bool, nat_le, nat_lt, if◌then◌else◌, List, [], ◌∷◌, length, ◌++◌, take, filter, map, Option, None, Some}
use Rattle.std.specs.List.{AllByRecursion}
use Rattle.s4_types.specs.declared.limits.TheConstants.{OBJECT_BYTES, ATTRIBUTE_BYTES}
use Rattle.s4_types.specs.declared.audit_rows.AuditKind.{AuditKind}
use Rattle.s4_types.specs.declared.audit_rows.AuditKind.TheVariants as kind
use Rattle.s4_types.specs.declared.audit_rows.AuditRow.{AuditRow}
use Rattle.s4_types.specs.declared.changes.Accepted.{Accepted}
use Rattle.s4_types.specs.declared.changes.Change.{Change}
use Rattle.s4_types.specs.declared.changes.Change.TheVariants.{Create, Delete, Write, Truncate, SetAttr, SetWindow, Flush, FlushO}
use Rattle.s4_model.specs.Effect.{object_of}
use Rattle.s4_model.specs.State.{State}

-- what a change is
abbrev pub kind_of : Change → AuditKind
kind_of (Create object attribute) = kind.Create
kind_of (Delete object) = kind.Delete
kind_of (Write object offset bytes) = kind.Write
kind_of (Truncate object size) = kind.Truncate
kind_of (SetAttr object attribute) = kind.SetAttr
kind_of (SetWindow window) = kind.SetWindow
kind_of (Flush first last) = kind.Flush
kind_of (FlushO object first last) = kind.FlushO

-- the first number that a row has of a change, and the second
abbrev pub first_of : Change → ℕ
first_of (Create object attribute) = length attribute
first_of (Delete object) = 0
first_of (Write object offset bytes) = offset
first_of (Truncate object size) = size
first_of (SetAttr object attribute) = length attribute
first_of (SetWindow window) = window
first_of (Flush first last) = first
first_of (FlushO object first last) = first

abbrev pub second_of : Change → ℕ
second_of (Write object offset bytes) = length bytes
second_of (Flush first last) = last
second_of (FlushO object first last) = last
second_of _ = 0

-- the row of a change at its moment
abbrev pub row_by : ℕ → Change → AuditRow
row_by moment change = record {
  moment = moment;
  kind = kind_of change;
  object = object_of change;
  first = first_of change;
  second = second_of change;
}

abbrev pub audit_row : Accepted → AuditRow
audit_row a = row_by a.moment a.change

-- whether a row is of this moment or a later one
abbrev pub is_from : ℕ → AuditRow → Bool
is_from t row = nat_le t row.moment

-- the rows of these that are
abbrev pub rows_from : ℕ → List AuditRow → List AuditRow
rows_from t rows = filter (is_from t) rows

-- the base's rows, and then one for each accepted change
abbrev pub all_rows : State → List AuditRow
all_rows s = s.audit ++ map audit_row s.changes

-- The audit: of these the ones from the floor on. What a span hides of objects is in it.
abbrev pub audit_of : State → List AuditRow
audit_of s = rows_from s.floor (all_rows s)

-- the first rows of the audit from a moment on, at most this many
abbrev pub rows_asked : State → ℕ → ℕ → List AuditRow
rows_asked s from most = take most (rows_from from (audit_of s))

-- a row is of an object whose number was given, where this is the next one's
abbrev pub IsGivenRow : ℕ → AuditRow → Type 0
IsGivenRow next row = (1 ≤ row.object) × (row.object < next)

-- a row of this kind that an accepted change can have: its numbers keep the limits, and those that it doesn't use are 0
abbrev pub IsRowOf : AuditKind → ℕ → AuditRow → Type 0
IsRowOf kind.Create next row = IsGivenRow next row × (row.first ≤ ATTRIBUTE_BYTES) × (row.second ≡ 0)
IsRowOf kind.Delete next row = IsGivenRow next row × (row.first ≡ 0) × (row.second ≡ 0)
IsRowOf kind.Write next row = IsGivenRow next row × (row.first + row.second ≤ OBJECT_BYTES)
IsRowOf kind.Truncate next row = IsGivenRow next row × (row.first ≤ OBJECT_BYTES) × (row.second ≡ 0)
IsRowOf kind.SetAttr next row = IsGivenRow next row × (row.first ≤ ATTRIBUTE_BYTES) × (row.second ≡ 0)
IsRowOf kind.SetWindow next row = (row.object ≡ 0) × (row.second ≡ 0)
IsRowOf kind.Flush next row = (row.object ≡ 0) × (row.first ≤ row.second) × (row.second < row.moment)
IsRowOf kind.FlushO next row = IsGivenRow next row × (row.first ≤ row.second) × (row.second < row.moment)

-- a row that an accepted change can have
abbrev pub IsAuditRow : ℕ → AuditRow → Type 0
IsAuditRow next row = (1 ≤ row.moment) × IsRowOf row.kind next row

-- moments ascend strictly
abbrev pub MomentsAscend : List AuditRow → Type 0
MomentsAscend [] = Unit {0}
MomentsAscend (row ∷ rows) = AllByRecursion (λ later. row.moment < later.moment) rows × MomentsAscend rows

-- a row that an accepted change can have, from the floor on and by the clock, where this is the next object's number
abbrev pub IsRowBetween : (floor clock next : ℕ) → AuditRow → Type 0
IsRowBetween floor clock next row = (floor ≤ row.moment) × (row.moment ≤ clock) × IsAuditRow next row

-- the rows of an audit: each is such a row, and their moments ascend
pub record AreAuditRows (floor clock next : ℕ) (rows : List AuditRow) : Type 0 where
  pub each : AllByRecursion (IsRowBetween floor clock next) rows
  pub ascend : MomentsAscend rows

-- Rows that are kept of a state's audit, by ascending moments: from the floor on they are the audit, whatever is still
-- kept below it, and none is later than the clock.
pub record KeepsAudit (s : State) (kept : List AuditRow) : Type 0 where
  pub whole : rows_from s.floor kept ≡ audit_of s
  pub past : AllByRecursion (λ row. row.moment ≤ s.clock) kept

-- the row of a change of this moment or a later one
abbrev pub row_from : ℕ → Accepted → Option AuditRow
row_from t a = if nat_lt a.moment t then None else Some (audit_row a)
