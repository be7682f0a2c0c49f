use Rattle.std.proofs.Common.{◌≡◌, ℕ, ap, ◌∙◌}
use Rattle.object_map.specs.Rows.{row_of}
use Rattle.segment_table.specs.Table.{Table}
use Rattle.segment_table.specs.Room.{log_of}
use Rattle.version_store.specs.Store.{StoreOf, fields_of}
use Rattle.window.specs.Timeline.{Timeline}
use Rattle.drive.proofs.Beginning.{base_of_none}
use Rattle.drive.proofs.new_drive.NewDrive.with_cache.Goals as goal

-- no object has a row
pub returns-clause-empty : goal.returns-clause-empty
returns-clause-empty c = λ (o : ℕ). ap (λ (s : StoreOf Table). row_of s.rows o) c.in_ok-opened.ensures.store ∙ c.in_ok-store.ensures.empty o

-- what it begins with is what every new drive of its window begins with
pub invariant_of-result : goal.invariant_of-result
invariant_of-result c =
    let same : c.in_ok-opened.opened.timeline ≡ c.new-window.result = c.in_ok-opened.ensures.timeline in
    base_of_none (fields_of log_of c.in_ok-opened.opened.store) c.in_ok-opened.opened.timeline c.in_ok-opened.opened.next c.in_ok-opened.opened.audit
    (returns-clause-empty c 0) (
      ap (λ (w : Timeline). w.clock) same ∙ c.new-window.ensures.numbers.0,
      ap (λ (w : Timeline). w.floor) same ∙ c.new-window.ensures.numbers.2,
      ap (λ (w : Timeline). w.runs) same ∙ c.new-window.ensures.runs,
    )
    (c.in_ok-opened.ensures.next ∙ c.new-3.ensures)
    (c.in_ok-opened.ensures.audit ∙ c.new-audit.ensures)
