use Rattle.std.proofs.Common.{◌-◌, max, length}
use Rattle.history_view.proofs.Fronts.{IsFront}
use Rattle.history_diff.proofs.Apart.{AreRangesFrom}
use Rattle.history_diff.proofs.ranges.ranges_of.Given as goal

-- with all ranges from here on, those so far are all ranges
abbrev pub invariant-loop-range : goal.invariant-loop-range
invariant-loop-range l = IsFront (AreRangesFrom l.before l.after) l.ranges.items l.from

abbrev pub decreases-loop-range : goal.decreases-loop-range
decreases-loop-range l = max (length l.before) (length l.after) - l.from
