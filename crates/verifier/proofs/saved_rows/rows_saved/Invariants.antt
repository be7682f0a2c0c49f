use Rattle.std.proofs.Common.{◌-◌, ◌^◌}
use Rattle.verifier.specs.SavedRows.{AreSavedUpTo}
use Rattle.verifier.proofs.saved_rows.rows_saved.Given as goal

abbrev pub invariant-loop-object : goal.invariant-loop-object
invariant-loop-object g l = AreSavedUpTo l.drive.store.rows l.last l.parts.items

abbrev pub decreases-loop-object : goal.decreases-loop-object
decreases-loop-object g l = 2 ^ 64 - l.last
