use Rattle.std.proofs.Common.{rules, arith, refl}
use Rattle.segment_word.specs.Layout.{frame_at}
use Rattle.segment_word.proofs.Releasing.{frees, next_word}
use Rattle.segment_word.proofs.steps.free.Goals as goal

pub compare_exchange-requires : goal.compare_exchange-requires
compare_exchange-requires c =
    (search rules, omega arith, frees _ _ _ _ _ _ c.requires.drive c.requires.inside c.requires.draining c.requires.unread (next_word (frame_at c.args.seat.now.me.0.frames c.args.frame) _ _ c.requires.draining c.requires.unread refl))
