use Rattle.std.proofs.Common.{◌≡◌, take}
use Rattle.history_restore.specs.Planning.{aims_planned}
use Rattle.history_restore.proofs.planning.planned_aims.Given as goal

-- those of the plans so far
abbrev pub invariant-loop-planned : goal.invariant-loop-planned
invariant-loop-planned l = l.aims.items ≡ aims_planned (take l.planned-index l.plans)
