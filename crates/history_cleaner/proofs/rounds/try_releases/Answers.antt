use Rattle.std.proofs.Common.{ℕ, ◌-◌}
use Rattle.history_cleaner.proofs.Emptied.{next_down, one_down}
use Rattle.history_cleaner.proofs.Sweeping.{TriesSoFar, try_step}
use Rattle.history_cleaner.proofs.rounds.try_releases.Goals as goal

pub loop-index-preserved : goal.loop-index-preserved
loop-index-preserved g c =
    one_down (λ (first : ℕ). TriesSoFar first c.args.count c.args.drive.now c.release.new.self) c.args.count c.loop-index.index c.loop-index-test.true
    (try_step c.release.result (c.args.count - c.loop-index.index) (c.args.count - 1 - c.loop-index.index) c.args.count c.args.drive.now c.loop-index.drive c.release.new.self
    (next_down c.args.count c.loop-index.index c.loop-index-test.true) c.loop-index.invariant c.release.ensures)
