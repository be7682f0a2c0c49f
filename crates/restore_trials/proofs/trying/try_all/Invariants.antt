use Rattle.std.proofs.Common.{◌≡◌, [], take}
use Rattle.restore_trials.specs.Trying.{Carries}
use Rattle.restore_trials.proofs.Serving.{AreDone}
use Rattle.restore_trials.proofs.trying.try_all.Given as goal

-- those so far were tried, and where nothing is listed they were put off or restored
abbrev pub invariant-loop-planned : goal.invariant-loop-planned
invariant-loop-planned g l = record {
  carries : Carries l.moments l.fn.drive l.fn.lacking.items l.drive l.lacking.items;
  fine : l.lacking.items ≡ [] → AreDone l.fn.drive l.moments l.fn.lacking.items l.progress.wasted l.progress.deferred.items (take l.planned-index l.chosen) l.drive;
}
