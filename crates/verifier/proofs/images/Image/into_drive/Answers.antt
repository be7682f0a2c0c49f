use Rattle.std.proofs.Common.{◌≤◌, ℕ, sym, subst}
use Rattle.std.specs.List.{AllByRecursion}
use Rattle.window.specs.Runs.{AreFewInEachList}
use Rattle.verifier.proofs.AuditRows.{are_rows, are_accepted}
use Rattle.verifier.proofs.images.Image.into_drive.Goals as goal

pub from_parts-requires-3-clause-few_in_each_list : goal.from_parts-requires-3-clause-few_in_each_list
from_parts-requires-3-clause-few_in_each_list c = subst AreFewInEachList (sym c.as_slice.ensures.value) c.self.invariant.few_in_each_list

pub from_parts-requires-4-clause-rows : goal.from_parts-requires-4-clause-rows
from_parts-requires-4-clause-rows c = are_rows c.self.inside.floor c.self.inside.clock c.self.inside.next c.self.inside.audit.rows c.self.invariant.audit.each

pub from_parts-requires-4-clause-accepted : goal.from_parts-requires-4-clause-accepted
from_parts-requires-4-clause-accepted c =
    subst (λ (n : ℕ). AllByRecursion (λ row. row.moment ≤ n) c.self.inside.audit.rows) (sym c.in_ok-window.ensures.numbers.0)
    (are_accepted c.self.inside.floor c.self.inside.clock c.self.inside.next c.self.inside.audit.rows c.self.invariant.audit.each)
