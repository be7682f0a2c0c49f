-- What upkeep leaves of the frames and of the objects, it leaves of the drive.
use Rattle.std.proofs.Common.{◌≡◌, ℕ, List, ap, ◌∙◌}
use Rattle.std.specs.Prelude.{Result, Ok, Err, OnErr}
use Rattle.s4_types.specs.declared.audit_rows.AuditRow.{AuditRow}
use Rattle.s4_types.specs.declared.refusals.Refusal.{Refusal}
use Rattle.block_log.specs.Log.{Log}
use Rattle.segment_word.specs.AcceptViews.{Ledger}
use Rattle.segment_table.specs.Changes.{MarksFrame, ReleasesFrame}
use Rattle.segment_table.specs.Table.{Table}
use Rattle.object_map.specs.declared.map.Row.{Row}
use Rattle.version_store.specs.Store.{StoreOf, StoreFields}
use Rattle.version_store.specs.Upkeep.{KeepsObjects}
use Rattle.drive.specs.Fields.{DriveFields, store_of}
use Rattle.drive.specs.Upkeep.{Marks, Releases}

-- a drive, its store and its objects, by their parts
abbrev drive_of : Ledger → StoreOf Table → List AuditRow → DriveFields
drive_of ledger store audit = record { ledger = ledger; store = store; audit = audit }

abbrev over : List (ℕ × Row) → Table → ℕ → StoreOf Table
over rows table latest = record { rows = rows; table = table; latest = latest }

abbrev objects_of : List (ℕ × Row) → Log → ℕ → StoreFields
objects_of rows log latest = record { rows = rows; log = log; latest = latest }

same_drive : (d later : DriveFields) → later.store ≡ d.store → later.ledger ≡ d.ledger → later.audit ≡ d.audit → later ≡ d
same_drive d later store ledger audit =
    ap (λ (s : StoreOf Table). drive_of later.ledger s later.audit) store ∙ ap (λ (l : Ledger). drive_of l d.store later.audit) ledger ∙ ap (λ (rows : List AuditRow). drive_of d.ledger d.store rows) audit

-- a store over the same table, with the same objects
same_table : (s later : StoreOf Table) → later.table ≡ s.table → later.rows ≡ s.rows → later.latest ≡ s.latest → later ≡ s
same_table s later table rows latest =
    ap (λ (t : Table). over later.rows t later.latest) table ∙ ap (λ (r : List (ℕ × Row)). over r s.table later.latest) rows ∙ ap (λ (m : ℕ). over s.rows s.table m) latest

-- the objects, where the log of their blocks is the same
same_objects : (s later : StoreFields) → later.log ≡ s.log → later.rows ≡ s.rows → later.latest ≡ s.latest → later ≡ s
same_objects s later log rows latest =
    ap (λ (l : Log). objects_of later.rows l later.latest) log ∙ ap (λ (r : List (ℕ × Row)). objects_of r s.log later.latest) rows ∙ ap (λ (m : ℕ). objects_of s.rows s.log m) latest

pub marks : (r : Result (Unit {0}) Refusal) (f : ℕ) (d later : DriveFields) → MarksFrame f d.store.table r later.store.table → OnErr r (later.store ≡ d.store) → store_of later ≡ store_of d → later.ledger ≡ d.ledger → later.audit ≡ d.audit → Marks f d r later
marks (Ok x) f d later frame refused store ledger audit = record { frame = frame; refused = tt; store = store; ledger = ledger; audit = audit }
marks (Err e) f d later frame refused store ledger audit = record { frame = frame; refused = same_drive d later refused ledger audit; store = store; ledger = ledger; audit = audit }

pub releases : (r : Result (Unit {0}) Refusal) (f : ℕ) (d later : DriveFields) → ReleasesFrame f d.store.table r later.store.table → KeepsObjects (store_of d) (store_of later) → later.ledger ≡ d.ledger → later.audit ≡ d.audit → Releases f d r later
releases (Ok x) f d later frame objects ledger audit = record { frame = frame; idle = tt; unchanged = tt; objects = objects; ledger = ledger; audit = audit }
releases (Err e) f d later frame objects ledger audit = record {
  frame = frame;
  idle = λ other. same_drive d later (same_table d.store later.store (frame.idle other) objects.rows objects.latest) ledger audit;
  unchanged = same_objects (store_of d) (store_of later) frame.log objects.rows objects.latest;
  objects = objects;
  ledger = ledger;
  audit = audit;
}
