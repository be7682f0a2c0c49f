-- The frames were tried from the highest down to this one.
use Rattle.std.proofs.Common.{◌-◌}
use Rattle.history_cleaner.proofs.Sweeping.{TriesSoFar}
use Rattle.history_cleaner.proofs.rounds.try_releases.Given as goal

abbrev pub invariant-loop-index : goal.invariant-loop-index
invariant-loop-index g l = TriesSoFar (l.count - l.index) l.count l.initial.drive l.drive
