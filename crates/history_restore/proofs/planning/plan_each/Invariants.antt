use Rattle.std.proofs.Common.{◌≡◌, take}
use Rattle.drive.specs.Fields.{state_in, store_of}
use Rattle.history_restore.specs.Planning.{PlansEach}
use Rattle.history_restore.proofs.planning.plan_each.Given as goal

-- the plans of the aims so far, of a drive that stays
abbrev pub invariant-loop-aim : goal.invariant-loop-aim
invariant-loop-aim g l = record {
  state : state_in l.drive ≡ state_in l.initial.drive;
  store : store_of l.drive ≡ store_of l.initial.drive;
  plans : PlansEach (state_in l.initial.drive) l.at (take l.aim-index l.aims) l.plans.items;
}
