-- What a history has come to: all that the checks and the reads look at.
use Rattle.std.specs.Prelude.{ℕ, ◌-◌, max, List, [], ◌∷◌, ◌++◌}
use Rattle.s4_types.specs.History.{History, Base, Record, accepted}
use Rattle.s4_types.specs.declared.audit_rows.AuditRow.{AuditRow}
use Rattle.s4_types.specs.declared.changes.Accepted.{Accepted}
use Rattle.s4_types.specs.declared.spans.Span.{Span}
use Rattle.s4_types.specs.declared.versions.Version.{Version}
use Rattle.s4_model.specs.Numbers.{clock_of, window_of, next_of, floor_of, window_by, next_by}

-- The base's versions, spans and audit rows and its clock, here called opened; the accepted changes since; the numbers.
pub record State : Type 0 where
  pub versions : List (ℕ × List (ℕ × Version))
  pub spans : List Span
  pub audit : List AuditRow
  pub opened : ℕ
  pub changes : List Accepted
  pub clock : ℕ
  pub window : ℕ
  pub floor : ℕ
  pub next : ℕ

-- the state of a history
abbrev pub state_of : History → State
state_of h = record {
  versions = h.base.versions;
  spans = h.base.spans;
  audit = h.base.audit;
  opened = h.base.clock;
  changes = accepted h;
  clock = clock_of h;
  window = window_of h;
  floor = floor_of h;
  next = next_of h;
}

-- a history with one more record
abbrev pub grown : History → Record → History
grown h r = record { base = h.base; records = h.records ++ r ∷ [] }

-- the base of a new drive
abbrev pub new_base : ℕ → Base
new_base window = record { versions = []; clock = 0; window = window; floor = 0; next = 1; spans = []; audit = [] }

-- the history of a new drive
abbrev pub new_history : ℕ → History
new_history window = record { base = new_base window; records = [] }

-- a state that has seen a moment
abbrev pub seen : State → ℕ → State
seen s now = record s { clock = max s.clock now; floor = max s.floor (max s.clock now - s.window) }

-- a state that has taken an accepted change
abbrev pub took : State → Accepted → State
took s a = record s {
  changes = s.changes ++ a ∷ [];
  clock = a.moment;
  window = window_by a.change s.window;
  floor = max s.floor (a.moment - window_by a.change s.window);
  next = next_by a.change s.next;
}
