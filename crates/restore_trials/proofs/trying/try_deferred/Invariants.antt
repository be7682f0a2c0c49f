use Rattle.std.proofs.Common.{◌≡◌, [], take}
use Rattle.restore_trials.specs.Trying.{AreRestoredOver, Carries}
use Rattle.restore_trials.proofs.trying.try_deferred.Given as goal

-- those so far were tried, and where nothing is listed they were restored
abbrev pub invariant-loop-planned : goal.invariant-loop-planned
invariant-loop-planned g l = record {
  carries : Carries l.moments l.fn.drive l.fn.lacking.items l.drive l.lacking.items;
  fine : l.lacking.items ≡ [] → (l.fn.lacking.items ≡ []) × AreRestoredOver l.fn.drive l.moments (take l.planned-index l.deferred) l.drive;
}
