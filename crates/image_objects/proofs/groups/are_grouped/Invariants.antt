use Rattle.std.proofs.Common.{◌≡◌, drop}
use Rattle.image_objects.specs.Versions.{grouped_by, grouped_behind_by}
use Rattle.image_objects.proofs.groups.are_grouped.Given as goal

abbrev pub invariant-loop-entry : goal.invariant-loop-entry
invariant-loop-entry l = grouped_behind_by l.version l.count l.before (drop l.entry-index l.later) ≡ grouped_by l.version l.fn.entries
