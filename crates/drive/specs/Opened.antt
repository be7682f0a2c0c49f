-- A drive that is opened: what its history begins with, as its objects and its window tell it.
use Rattle.std.specs.Prelude.{◌≡◌, ℕ, ◌≤◌, ◌+◌, ◌-◌, Bool, false, ◌==◌, if◌then◌else◌, List, [], ◌∷◌, Option, None, option_map, map}
use Rattle.std.specs.List.{AllByRecursion, filter_map, range_with_len}
use Rattle.atomic_table.specs.Seated.{TableId}
use Rattle.s4_types.specs.Pointer.{Place}
use Rattle.s4_types.specs.History.{Base, History}
use Rattle.s4_types.specs.declared.audit_rows.AuditRow.{AuditRow}
use Rattle.s4_types.specs.declared.versions.Version.{Version}
use Rattle.s4_model.specs.State.{State, state_of}
use Rattle.s4_model.specs.Visible.{spans_of}
use Rattle.s4_model.specs.VersionAt.{current_of, versions_of, version_of}
use Rattle.s4_model.specs.Sound.{AreListedOnce, DatesAscend}
use Rattle.block_log.specs.Log.{Stored}
use Rattle.codec.specs.declared.inodes.Inode.{Inode}
use Rattle.codec.specs.Entry.{EntryFields}
use Rattle.undo_redo.specs.Redone.{redone}
use Rattle.inode.specs.Contents.{contents_of, meaning}
use Rattle.object_map.specs.declared.map.Row.{Row}
use Rattle.object_map.specs.Rows.{row_of}
use Rattle.time_read.specs.Rows.{IsRow, first_of, entries_of, inode_of}
use Rattle.time_read.specs.Orderly.{IsOrderly}
use Rattle.segment_table.specs.Table.{Table}
use Rattle.version_store.specs.Store.{StoreOf, StoreFields, IsStore}
use Rattle.version_store.specs.Versions.{version_in}
use Rattle.window.specs.Timeline.{Timeline}

-- a drive that was opened and has no name: the table of its accept word, its objects, its window, the next object's number, and
-- the rows of its audit
pub record OpenedFields : Type 0 where
  pub accepts : TableId
  pub store : StoreOf Table
  pub timeline : Timeline
  pub next : ℕ
  pub audit : List AuditRow

-- whether there are entries, the first of them of this moment
abbrev pub begins_at : ℕ → List EntryFields → Bool
begins_at m [] = false
begins_at m (e ∷ entries) = e.moment == m

-- The versions after an inode, by the entries that follow it: each from its entry's moment, but none that is between two
-- entries of one moment.
unfoldable pub versions_behind : (Place → List ℕ) → Inode → List EntryFields → List (ℕ × Version)
versions_behind contents i [] = []
versions_behind contents i (e ∷ entries) =
    if begins_at e.moment entries then versions_behind contents (redone e i) entries else (e.moment, meaning contents (redone e i)) ∷ versions_behind contents (redone e i) entries

-- the versions of an object by its row: the first inode's from moment 0, and those after it
unfoldable pub versions_of_row : (Place → Option Stored) → ℕ → Row → List (ℕ × Version)
versions_of_row held o row = (0, meaning (contents_of held) (first_of held o row)) ∷ versions_behind (contents_of held) (first_of held o row) (entries_of held o row)

-- an object that has a row, with its versions
abbrev pub object_by : (Place → Option Stored) → ℕ → Option Row → Option (ℕ × List (ℕ × Version))
object_by held o row = option_map (λ r. (o, versions_of_row held o r)) row

-- the objects of numbers below the next one that have a row, each with its versions, by ascending number
unfoldable pub versions_below : StoreFields → ℕ → List (ℕ × List (ℕ × Version))
versions_below s next = filter_map (λ o. object_by s.log.held o (row_of s.rows o)) (range_with_len 0 next)

-- what a drive of these objects begins with, under this window, with this number for the next object and these rows of the audit
abbrev pub base_of : StoreFields → Timeline → ℕ → List AuditRow → Base
base_of s w next audit = record { versions = versions_below s next; clock = w.clock; window = w.window; floor = w.floor; next = next; spans = w.runs; audit = audit }

-- its history, to which nothing has come yet
abbrev pub opened_history : StoreFields → Timeline → ℕ → List AuditRow → History
opened_history s w next audit = record { base = base_of s w next audit; records = [] }

-- no object has a row whose number is the next one or a later one
abbrev pub NoneFrom : ℕ → StoreFields → Type 0
NoneFrom next s = (o : ℕ) → next ≤ o → row_of s.rows o ≡ None

-- rows of ascending objects, from a number on
abbrev pub RowsAscend : ℕ → List (ℕ × Row) → Type 0
RowsAscend low [] = Unit {0}
RowsAscend low (e ∷ rows) = (low ≤ e.0) × RowsAscend (e.0 + 1) rows

-- the objects of a store's rows, each with its versions, in the order of the rows
abbrev pub versions_listed : StoreFields → List (ℕ × List (ℕ × Version))
versions_listed s = map (λ e. (e.0, versions_of_row s.log.held e.0 e.1)) s.rows

-- Each object is listed once, with the moments of its versions ascending strictly.
pub record IsListed (versions : List (ℕ × List (ℕ × Version))) : Type 0 where
  pub once : AreListedOnce versions
  pub dated : AllByRecursion (λ entry. DatesAscend entry.1) versions

-- A state is that of these objects and this window: it has the window's numbers, its runs as spans, and at each moment of each
-- object the version that the object has in the store.
pub record IsBegun (s : StoreFields) (w : Timeline) (number : ℕ) (begun : State) : Type 0 where
  pub clock : begun.clock ≡ w.clock
  pub window : begun.window ≡ w.window
  pub floor : begun.floor ≡ w.floor
  pub next : begun.next ≡ number
  pub spans : spans_of begun ≡ w.runs
  pub versions : (o t : ℕ) → version_of begun o t ≡ version_in s o t

-- ---- what these come to: each holds of all stores, and is a clause of a function with an empty body

-- At each moment the versions of a row tell the one that the inode which is current there represents.
abbrev pub ARowTellsItsVersions : Type 0
ARowTellsItsVersions = (held : Place → Option Stored) (o t : ℕ) (row : Row) → IsRow held o row → current_of (versions_of_row held o row) t ≡ meaning (contents_of held) (inode_of held o row t)

-- Where the row is in order, the moments from which they are current ascend strictly.
abbrev pub ARowsVersionsAscend : Type 0
ARowsVersionsAscend = (held : Place → Option Stored) (o latest : ℕ) (row : Row) → IsRow held o row → IsOrderly held o row latest → DatesAscend (versions_of_row held o row)

-- At each moment a base tells of each object the version that the object has in the store.
abbrev pub ABaseTellsTheStoresVersions : Type 0
ABaseTellsTheStoresVersions = (s : StoreFields) (w : Timeline) (next : ℕ) (audit : List AuditRow) (o t : ℕ) → IsStore s → NoneFrom next s → current_of (versions_of (base_of s w next audit).versions o) t ≡ version_in s o t

-- Where a store's rows are by ascending objects, a base lists their versions in their order.
abbrev pub ABaseListsRowsInOrder : Type 0
ABaseListsRowsInOrder = (s : StoreFields) (w : Timeline) (low next : ℕ) (audit : List AuditRow) → NoneFrom next s → RowsAscend low s.rows → (base_of s w next audit).versions ≡ versions_listed s

-- A base lists each object once, with the moments of its versions ascending strictly.
abbrev pub ABaseListsEachObjectOnce : Type 0
ABaseListsEachObjectOnce = (s : StoreFields) (w : Timeline) (next : ℕ) (audit : List AuditRow) → IsStore s → IsListed (base_of s w next audit).versions

-- The state of a drive that was just opened is that of its parts, where its floor is as high as its window reaches.
abbrev pub AnOpenedDriveBeginsAsItsParts : Type 0
AnOpenedDriveBeginsAsItsParts = (s : StoreFields) (w : Timeline) (next : ℕ) (audit : List AuditRow) → IsStore s → NoneFrom next s → s.latest ≤ w.clock → w.clock - w.window ≤ w.floor → IsBegun s w next (state_of (opened_history s w next audit))
