-- From the parts of a drive and a session to what contracts see of them.
use Rattle.std.proofs.Common.{◌≡◌, ℕ, ◌+◌, ◌<◌, ◌≤◌, ◌^◌, List, length, subst, arith}
use Rattle.s4_types.specs.History.{Base, accepted}
use Rattle.s4_types.specs.declared.audit_rows.AuditRow.{AuditRow}
use Rattle.s4_model.specs.Audit.{KeepsAudit}
use Rattle.s4_model.specs.State.{State, state_of}
use Rattle.s4_model.specs.Refusals.{last_number}
use Rattle.s4_model.specs.Sound.{IsSound}
use Rattle.segment_word.specs.AcceptViews.{Ledger, count_of}
use Rattle.segment_table.specs.Table.{Table}
use Rattle.segment_table.specs.Room.{log_of}
use Rattle.version_store.specs.Store.{StoreOf, fields_of}
use Rattle.window.specs.Timeline.{Timeline}
use Rattle.drive.specs.Fields.{DriveFields, state_in, store_of}
use Rattle.drive.specs.Keeping.{IsKeptDrive}
use Rattle.drive.proofs.Versions.{counted_by_moments}

-- a drive of this history and these objects
abbrev pub drive_as : Ledger → StoreOf Table → List AuditRow → DriveFields
drive_as l store audit = record { ledger = l; store = store; audit = audit }

pub kept_of : (d : DriveFields) (base : Base) (l : Ledger) (store : StoreOf Table) (audit : List AuditRow) (w : Timeline) (next : ℕ) → drive_as l store audit ≡ d
    → (l.history.base ≡ base) × IsKeptDrive (state_of l.history) (fields_of log_of store) w next × KeepsAudit (state_of l.history) audit → IsKeptDrive (state_in d) (store_of d) w next
kept_of d base l store audit w next is kept = subst (λ (x : DriveFields). IsKeptDrive (state_in x) (store_of x) w next) is kept.1

-- a number is left for one more change
pub can_count : (l : Ledger) → IsSound (state_of l.history) → (state_of l.history).clock < last_number → count_of l + 1 < 2 ^ 64
can_count l sound lt =
    let s : State = state_of l.history in
    let most : s.opened + length (accepted l.history) ≤ s.clock = counted_by_moments s.opened s.changes s.clock sound.stamped in
    omega arith
