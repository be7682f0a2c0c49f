use Rattle.std.proofs.Common.{take}
use Rattle.drive.specs.Fields.{store_of}
use Rattle.restore_orders.specs.Choosing.{HaveRows}
use Rattle.restore_orders.proofs.choosing.check_objects.Given as goal

-- the objects so far have rows
abbrev pub invariant-loop-object : goal.invariant-loop-object
invariant-loop-object g l = HaveRows (store_of l.drive) (take l.object-index l.objects)
