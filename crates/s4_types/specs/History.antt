-- The history that a drive represents: what it began with, and what came since.
use Rattle.std.specs.Prelude.{ℕ, List, [], ◌∷◌}
use Rattle.s4_types.specs.declared.audit_rows.AuditRow.{AuditRow}
use Rattle.s4_types.specs.declared.changes.Accepted.{Accepted}
use Rattle.s4_types.specs.declared.spans.Span.{Span}
use Rattle.s4_types.specs.declared.versions.Version.{Version}

-- What a drive begins with: for objects their versions, each with the moment from which it is current, by
-- ascending moments; the four numbers; the spans; rows of what was accepted before.
pub record Base : Type 0 where
  pub versions : List (ℕ × List (ℕ × Version))
  pub clock : ℕ
  pub window : ℕ
  pub floor : ℕ
  pub next : ℕ
  pub spans : List Span
  pub audit : List AuditRow

-- what comes after the base: an accepted change, or a moment seen
pub data Record : Type 0 where
  Took : Accepted → Record
  Seen : ℕ → Record

-- a base, and the records since, oldest first
pub record History : Type 0 where
  pub base : Base
  pub records : List Record

-- the accepted changes among records
abbrev pub taken : List Record → List Accepted
taken [] = []
taken (Took a ∷ records) = a ∷ taken records
taken (Seen _ ∷ records) = taken records

-- the accepted changes of a history, oldest first
abbrev pub accepted : History → List Accepted
accepted h = taken h.records
