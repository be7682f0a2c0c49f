use Rattle.std.proofs.Common.{◌≡◌, [], take}
use Rattle.std.specs.List.{AllByRecursion}
use Rattle.drive.specs.Fields.{state_in, store_of}
use Rattle.history_restore.specs.Planning.{IsPlanned, aims_planned}
use Rattle.restore_trials.specs.Surveys.{IsHiddenAlone}
use Rattle.restore_trials.proofs.surveys.plan_aims.Given as goal

-- the plans so far are of a drive that stays, what was added since has its moment hidden, and where nothing has all have plans
abbrev pub invariant-loop-aim : goal.invariant-loop-aim
invariant-loop-aim g l = record {
  state : state_in l.drive ≡ state_in l.fn.drive;
  store : store_of l.drive ≡ store_of l.fn.drive;
  planned : AllByRecursion (IsPlanned (state_in l.fn.drive) l.at) l.plans.items;
  hidden : AllByRecursion (IsHiddenAlone (state_in l.fn.drive) l.at) l.fn.hidden.items → AllByRecursion (IsHiddenAlone (state_in l.fn.drive) l.at) l.hidden.items;
  all : l.hidden.items ≡ [] → aims_planned l.plans.items ≡ take l.aim-index l.aims;
}
