-- The objects so far are found.
use Rattle.std.proofs.Common.{◌-◌, ◌^◌}
use Rattle.object_map.specs.Objects.{value_of}
use Rattle.segment_table.specs.Used.{used_at}
use Rattle.image_salvage.proofs.Passing.{FoundTo}
use Rattle.image_salvage.proofs.unlisted.all_found.Given as goal

abbrev pub invariant-loop-object : goal.invariant-loop-object
invariant-loop-object l = FoundTo (used_at l.table) (value_of l.heads.entries) l.last l.found.items

abbrev pub decreases-loop-object : goal.decreases-loop-object
decreases-loop-object l = 2 ^ 64 - l.last
