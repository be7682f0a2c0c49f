use Rattle.std.proofs.Common.{◌∙◌, ap, sym}
use Rattle.restore_trials.proofs.Making.{made_at}
use Rattle.restore_trials.proofs.Serving.{some_pushed}
use Rattle.restore_trials.proofs.surveys.make_rooms.Goals as goal
use Rattle.restore_trials.proofs.surveys.make_rooms.Goals.{in-Some+in_ok-push, in_default}

pub loop-room-preserved : goal.loop-room-preserved
loop-room-preserved g c =
    elim c.match-branch-2.branch [
      | in-Some+in_ok-push w ↦ λ none. absurd (some_pushed c.loop-room.unmade.items w.push.new.list.items _ w.in_ok-push.ensures.pushed (sym (ap (λ v. v.items) w.unmade-is) ∙ none))
      | in_default w ↦ λ none.
          made_at c.args.drive.now c.args.moments.now c.args.full.now c.loop-room.room-index c.room-item.result c.loop-room.drive c.make_room.new.drive c.loop-room-test.true c.room-item.is
          (c.loop-room.invariant (sym (ap (λ v. v.items) w.unmade-is) ∙ none)) (c.in_ok-lack.ensures.made w.in_default.is)
    ]
