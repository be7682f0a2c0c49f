use Rattle.std.proofs.Common.{◌≡◌, get_or, refl, sym, ap, ◌∙◌}
use Rattle.std.specs.Prelude.{nat_lt}
use Rattle.drive.specs.Fields.{DriveFields}
use Rattle.history_cleaner.proofs.Rising.{generation_at, risen_step, still_step}
use Rattle.history_cleaner.proofs.frames.count_risen.Goals as goal
use Rattle.history_cleaner.proofs.frames.count_risen.Goals.{then-is_later, else-is_later}

pub loop-frame-preserved : goal.loop-frame-preserved
loop-frame-preserved g c =
    let frames = c.args.drive.now.store.table.seat.frames in
    let f = c.loop-frame.frame in
    let before = get_or c.args.noted.now f 0 in
    let later : c.is_later.result ≡ nat_lt before (generation_at frames f) = c.is_later.ensures.later ∙ ap (λ (d : DriveFields). nat_lt before (generation_at d.store.table.seat.frames f)) c.loop-frame.invariant.same in
    record {
      count = elim c.if-is_later.branch [
        | then-is_later w ↦ risen_step c.args.noted.now frames f c.loop-frame.risen c.if-is_later.risen before c.loop-frame.invariant.count refl (sym later ∙ w.if-is_later.true) w.risen-is
        | else-is_later w ↦ still_step c.args.noted.now frames f c.loop-frame.risen c.if-is_later.risen before c.loop-frame.invariant.count refl (sym later ∙ w.if-is_later.false) w.risen-is
      ];
      same = c.is_later.ensures.same ∙ c.loop-frame.invariant.same;
    }
