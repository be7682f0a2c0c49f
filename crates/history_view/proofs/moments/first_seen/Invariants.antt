use Rattle.std.proofs.Common.{◌-◌, ◌≤◌}
use Rattle.s4_model.specs.Visible.{IsSeenBetween}
use Rattle.drive.specs.Fields.{state_in}
use Rattle.history_view.proofs.Seen.{NoneBetween}
use Rattle.history_view.proofs.moments.first_seen.Given as goal

-- some moment between the two can be read, and none below the first
abbrev pub invariant-loop-low : goal.invariant-loop-low
invariant-loop-low g l = record {
  from : l.fn.from ≤ l.low;
  between : IsSeenBetween (state_in l.drive) l.object l.low l.high;
  none : NoneBetween (state_in l.drive) l.object l.fn.from l.low;
}

abbrev pub decreases-loop-low : goal.decreases-loop-low
decreases-loop-low g l = l.high - l.low
