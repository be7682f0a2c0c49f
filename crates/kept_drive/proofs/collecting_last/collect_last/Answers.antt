use Rattle.std.proofs.Common.{ap, refl, sym, ◌∙◌}
use Rattle.s4_model.specs.Numbers.{clock_of}
use Rattle.drive.specs.Fields.{DriveFields, SessionFields, history_of, state_in}
use Rattle.verifier.specs.Saved.{with_digest}
use Rattle.kept_drive.specs.Images.{last_clock}
use Rattle.kept_drive.proofs.CollectedLemmas.{front_is, last_image}
use Rattle.kept_drive.proofs.Results.{both_ok}
use Rattle.kept_drive.proofs.SeeingMore.{caught_up_more}
use Rattle.kept_drive.proofs.collecting_last.collect_last.Goals as goal

-- the image is of the drive as the session met it, at its last clock
pub returns-clause-closed : goal.returns-clause-closed
returns-clause-closed g c =
    let d = c.args.drive.now in
    let moment = c.last_clock.result in
    both_ok c.save_front.result _ _ _
    (λ front saved promise. record {
      history = history_of d;
      had = refl;
      is = record {
        begins = c.rules.ensures.base;
        met = sym (ap (λ (s : SessionFields). s.told.seen) c.meet.ensures.session);
        sound = c.rules.ensures.sound;
        image = last_image c.args.start (clock_of (history_of d)) moment (history_of d) (with_digest front.items) refl
            (c.last_clock.ensures ∙ ap (last_clock c.args.start) (c.clock.ensures ∙ ap (λ (e : DriveFields). (state_in e).clock) c.meet.ensures.same))
            c.rules.ensures.sound (front_is d _ moment (with_digest front.items) c.meet.ensures.same saved promise);
      };
    })
    c.save_front.ensures.saved c.save_front.ensures.promise

pub returns-clause-grows : goal.returns-clause-grows
returns-clause-grows g c = caught_up_more c.args.drive.now.ledger _ _ c.meet.ensures.session c.meet.ensures.grows
