use Rattle.std.proofs.Common.{◌-◌, ◌^◌}
use Rattle.drive.specs.Fields.{store_of}
use Rattle.history_view.specs.Logs.{AreRowsFrom}
use Rattle.history_view.proofs.Fronts.{IsFront}
use Rattle.history_view.proofs.logs.all_objects.Given as goal

-- the objects so far are those up to the last
abbrev pub invariant-loop-object : goal.invariant-loop-object
invariant-loop-object g l = IsFront (AreRowsFrom (store_of l.drive)) l.objects.items l.last

abbrev pub decreases-loop-object : goal.decreases-loop-object
decreases-loop-object g l = 2 ^ 64 - l.last
