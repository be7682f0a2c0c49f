-- What contracts see of a drive, of a session, and of a drive that has no name yet.
use Rattle.std.specs.Prelude.{ℕ, List}
use Rattle.atomic_table.specs.Seated.{TableId}
use Rattle.s4_types.specs.History.{History}
use Rattle.s4_types.specs.declared.audit_rows.AuditRow.{AuditRow}
use Rattle.s4_types.specs.declared.requests.Role.{Role}
use Rattle.s4_model.specs.State.{State, state_of}
use Rattle.segment_word.specs.AcceptViews.{Ledger, Told}
use Rattle.segment_table.specs.Table.{Table}
use Rattle.segment_table.specs.Room.{log_of}
use Rattle.version_store.specs.Store.{StoreOf, StoreFields, fields_of}

-- a drive: its history, with the seat that each change was accepted for, its objects, and the rows that it keeps of the audit
pub record DriveFields : Type 0 where
  pub ledger : Ledger
  pub store : StoreOf Table
  pub audit : List AuditRow

-- a session: what it was told, and what it may do
pub record SessionFields : Type 0 where
  pub told : Told
  pub role : Role

-- a drive without a name: the table of its accept word, its objects and its window
pub record NewFields : Type 0 where
  pub accepts : TableId
  pub store : StoreOf Table
  pub window : ℕ

abbrev pub history_of : DriveFields → History
history_of d = d.ledger.history

-- the state that a drive's history has come to
abbrev pub state_in : DriveFields → State
state_in d = state_of d.ledger.history

-- a drive's objects, over the log of their blocks
abbrev pub store_of : DriveFields → StoreFields
store_of d = fields_of log_of d.store
