use Rattle.std.proofs.Common.{◌∙◌, inl, inr, refl, sym, ap}
use Rattle.std.proofs.lemmas.Bool.{true≢false}
use Rattle.std.proofs.lemmas.Result.{on_ok_weaker}
use Rattle.history_restore.specs.Asking.{is_of_room}
use Rattle.restore_search.specs.declared.surveys.Lack.TheVariants.{Blocks, Journal}
use Rattle.restore_trials.specs.Trying.{IsRestoredOver, lack_of}
use Rattle.restore_trials.proofs.Carrying.{carries_lacking, carries_tried}
use Rattle.restore_trials.proofs.Serving.{never_fine}
use Rattle.restore_trials.proofs.trying.try_aim.Goals as goal

pub returns-in-Ok : goal.returns-in-Ok
returns-in-Ok g c =
    let over : IsRestoredOver c.args.drive.now c.args.moments.now c.args.aim.now c.restore_object.new.drive =
    record {
      restored = c.in-Ok.field-0;
      restores = record {
        restores = c.in-Ok.ensures.restored;
        taken = c.in-Ok.ensures.taken;
        stored = c.in-Ok.ensures.stored;
        moved = c.in-Ok.ensures.moved;
        dated = c.restore_object.ensures.dated;
        others = c.restore_object.ensures.others;
        past = c.restore_object.ensures.past;
      };
    } in
    record {
      carries = carries_tried c.args.moments.now c.args.drive.now c.restore_object.new.drive c.args.aim.now c.args.lacking.now.items (inl over);
      fine = λ none. record { before = none; restored = λ _. (refl, over) };
    }

pub returns-in-ChainFull : goal.returns-in-ChainFull
returns-in-ChainFull g c = record {
  carries =
      on_ok_weaker c.leave.result
      (carries_lacking c.args.moments.now c.args.drive.now c.restore_object.new.drive c.args.aim.now c.in-Err.failure Journal c.args.lacking.now.items c.leave.new.lacking.items c.in-Err.ensures.stopped c.in-Err.ensures.lacks (ap is_of_room c.in-ChainFull.is) (ap lack_of c.in-ChainFull.is))
      c.leave.ensures;
  fine = never_fine c.leave.result c.args.lacking.now.items c.leave.new.lacking.items _ _ c.leave.ensures;
}

pub returns-in-NoSpace : goal.returns-in-NoSpace
returns-in-NoSpace g c = record {
  carries =
      on_ok_weaker c.leave-in-NoSpace.result
      (carries_lacking c.args.moments.now c.args.drive.now c.restore_object.new.drive c.args.aim.now c.in-Err.failure Blocks c.args.lacking.now.items c.leave-in-NoSpace.new.lacking.items c.in-Err.ensures.stopped c.in-Err.ensures.lacks (ap is_of_room c.in-NoSpace.is) (ap lack_of c.in-NoSpace.is))
      c.leave-in-NoSpace.ensures;
  fine = never_fine c.leave-in-NoSpace.result c.args.lacking.now.items c.leave-in-NoSpace.new.lacking.items _ _ c.leave-in-NoSpace.ensures;
}

pub returns-in-NoSpace-2 : goal.returns-in-NoSpace-2
returns-in-NoSpace-2 g c = record {
  carries = carries_tried c.args.moments.now c.args.drive.now c.restore_object.new.drive c.args.aim.now c.args.lacking.now.items (inr (c.in-Err.failure, c.in-Err.ensures.stopped));
  fine = λ none. record { before = none; restored = λ sure. absurd (true≢false (sym sure ∙ c.if-is_sure.false)) };
}
