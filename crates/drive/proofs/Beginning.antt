-- What a new drive begins with.
use Rattle.std.proofs.Common.{◌≡◌, ℕ, List, [], Option, None, ap, ◌∙◌}
use Rattle.std.specs.List.{cons_option}
use Rattle.s4_types.specs.History.{Base}
use Rattle.s4_types.specs.declared.audit_rows.AuditRow.{AuditRow}
use Rattle.s4_types.specs.declared.spans.Span.{Span}
use Rattle.s4_types.specs.declared.versions.Version.{Version}
use Rattle.s4_model.specs.State.{new_base}
use Rattle.object_map.specs.declared.map.Row.{Row}
use Rattle.object_map.specs.Rows.{row_of}
use Rattle.version_store.specs.Store.{StoreFields}
use Rattle.window.specs.Timeline.{Timeline}
use Rattle.drive.specs.Opened.{base_of, object_by, versions_below}

-- before the first number there is no object
none_below_the_first : (s : StoreFields) → row_of s.rows 0 ≡ None → versions_below s 1 ≡ []
unfolding versions_below
none_below_the_first s none = ap (λ (row : Option Row). cons_option (object_by s.log.held 0 row) []) none

-- a base by its parts
abbrev base_with : ℕ → ℕ → List (ℕ × List (ℕ × Version)) → ℕ → ℕ → List Span → List AuditRow → Base
base_with window next versions clock floor spans audit =
    record { versions = versions; clock = clock; window = window; floor = floor; next = next; spans = spans; audit = audit }

-- what a drive of no objects begins with, under a window of moment 0 that hides nothing
pub base_of_none : (s : StoreFields) (w : Timeline) (next : ℕ) (audit : List AuditRow) → row_of s.rows 0 ≡ None → (w.clock ≡ 0) × (w.floor ≡ 0) × (w.runs ≡ []) → next ≡ 1 → audit ≡ [] → base_of s w next audit ≡ new_base w.window
base_of_none s w next audit none begun first empty =
    ap (λ (n : ℕ). base_of s w n audit) first
    ∙ ap (λ (rows : List AuditRow). base_of s w 1 rows) empty
    ∙ ap (λ (versions : List (ℕ × List (ℕ × Version))). base_with w.window 1 versions w.clock w.floor w.runs []) (none_below_the_first s none)
    ∙ ap (λ (clock : ℕ). base_with w.window 1 [] clock w.floor w.runs []) begun.0
    ∙ ap (λ (floor : ℕ). base_with w.window 1 [] 0 floor w.runs []) begun.1
    ∙ ap (λ (spans : List Span). base_with w.window 1 [] 0 0 spans []) begun.2
