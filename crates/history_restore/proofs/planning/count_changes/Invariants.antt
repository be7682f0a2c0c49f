use Rattle.std.proofs.Common.{◌≡◌, min, take}
use Rattle.s4_model.specs.Refusals.{last_number}
use Rattle.history_restore.specs.Planning.{changes_planned}
use Rattle.history_restore.proofs.planning.count_changes.Given as goal

-- the changes of the plans so far
abbrev pub invariant-loop-planned : goal.invariant-loop-planned
invariant-loop-planned l = l.count ≡ min last_number (changes_planned (take l.planned-index l.plans))
