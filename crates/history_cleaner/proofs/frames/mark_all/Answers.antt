use Rattle.history_cleaner.proofs.Emptied.{mark_step}
use Rattle.history_cleaner.proofs.frames.mark_all.Goals as goal

pub loop-frame-preserved : goal.loop-frame-preserved
loop-frame-preserved g c = mark_step c.mark.result c.loop-frame.frame c.args.drive.now c.loop-frame.drive c.mark.new.self c.loop-frame.invariant c.mark.ensures
