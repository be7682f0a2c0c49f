use Rattle.std.proofs.Common.{ℕ, ◌-◌, sym, ◌∙◌}
use Rattle.lemmas.proofs.Result.{OnErr_from}
use Rattle.history_cleaner.proofs.Emptied.{ReleasesSoFar, next_down, one_down, release_step, skip_step, missed_ends}
use Rattle.history_cleaner.proofs.frames.release_all.Goals as goal
use Rattle.history_cleaner.proofs.frames.release_all.Goals.{then-is_draining+in_ok-release, else-is_draining}

pub loop-index-preserved : goal.loop-index-preserved
loop-index-preserved g c =
    let frame = c.args.count - 1 - c.loop-index.index in
    let next = next_down c.args.count c.loop-index.index c.loop-index-test.true in
    one_down (λ (first : ℕ). ReleasesSoFar first c.args.count c.args.drive.now c.if-is_draining.drive) c.args.count c.loop-index.index c.loop-index-test.true (elim c.if-is_draining.branch [
      | then-is_draining+in_ok-release w ↦
          release_step (c.args.count - c.loop-index.index) frame c.args.count c.args.drive.now c.loop-index.drive c.is_draining.new.self w.release.new.self c.if-is_draining.drive next c.loop-index.invariant
          c.is_draining.ensures.same w.in_ok-release.ensures.frame.released w.release.ensures.objects w.release.ensures.ledger w.drive-is
      | else-is_draining w ↦
          skip_step (c.args.count - c.loop-index.index) frame c.args.count c.args.drive.now c.loop-index.drive c.is_draining.new.self c.if-is_draining.drive next c.loop-index.invariant
          c.is_draining.ensures.same (sym c.is_draining.ensures.draining ∙ w.if-is_draining.false) w.drive-is
    ])

-- the frame had a reader: there it ended
pub returns-in_err-release-clause-ended : goal.returns-in_err-release-clause-ended
returns-in_err-release-clause-ended g c =
    OnErr_from c.from_residual.result (missed_ends (c.args.count - c.loop-index.index) c.args.count (c.args.count - 1 - c.loop-index.index) c.args.drive.now c.loop-index.drive c.is_draining.new.self c.release.new.self
    (next_down c.args.count c.loop-index.index c.loop-index-test.true) c.loop-index.invariant c.is_draining.ensures.same (sym c.is_draining.ensures.draining ∙ c.if-is_draining.true) c.in_err-release.ensures.frame.missed)
