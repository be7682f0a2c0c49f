use Rattle.std.proofs.Common.{◌≡◌, filter, take}
use Rattle.history_restore.specs.Whole.{is_chosen}
use Rattle.history_restore.proofs.planning.chosen_plans.Given as goal

-- those of the plans so far
abbrev pub invariant-loop-planned : goal.invariant-loop-planned
invariant-loop-planned l = l.chosen.items ≡ filter (is_chosen l.keep_newer) (take l.planned-index l.plans)
