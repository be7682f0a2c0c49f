use Rattle.std.proofs.Common.{rules, ◌^◌, ◌<◌, ℕ, ap, refl, subst, sym, arith}
use Rattle.std.proofs.lemmas.Grind.{common_steps}
use Rattle.s4_types.specs.History.{Seen}
use Rattle.s4_model.specs.State.{grown}
use Rattle.drive.specs.Fields.{SessionFields, history_of, state_in}
use Rattle.verifier.specs.Saved.{with_digest}
use Rattle.kept_drive.specs.Images.{IsImageOf}
use Rattle.kept_drive.proofs.CollectedLemmas.{front_is}
use Rattle.kept_drive.proofs.Counting.{counted}
use Rattle.kept_drive.proofs.SeeingMore.{caught_up_more}
use Rattle.kept_drive.proofs.collecting.collect.Goals as goal

-- the image is of the drive as the session met it, once it has seen the reach
pub returns-clause-of_drive : goal.returns-clause-of_drive
returns-clause-of_drive g c =
    let bytes = with_digest c.in_ok-front.front.items in
    let fits : (state_in c.args.drive.now).clock < 2 ^ 64 = first_of (search rules, grind (arith, common_steps)) in
    record {
      number = counted (state_in c.args.drive.now) c.args.number c.rules.ensures.sound fits c.requires;
      fits = fits;
      ahead_of = search rules;
      sound = c.rules.ensures.sound;
      image = subst (λ (m : ℕ). IsImageOf (grown (history_of c.args.drive.now) (Seen m)) bytes) c.new.ensures
          (front_is c.args.drive.now _ c.new.result bytes c.meet.ensures.same c.in_ok-front.ensures.saved c.in_ok-front.ensures.promise);
    }

pub returns-clause-collected : goal.returns-clause-collected
returns-clause-collected g c = record {
  history = history_of c.args.drive.now;
  had = refl;
  begins = c.rules.ensures.base;
  met = sym (ap (λ (s : SessionFields). s.told.seen) c.meet.ensures.session);
  is = returns-clause-of_drive g c;
}

pub returns-clause-grows : goal.returns-clause-grows
returns-clause-grows g c = caught_up_more c.args.drive.now.ledger _ _ c.meet.ensures.session c.meet.ensures.grows

pub returns-in_err-front-clause-grows : goal.returns-in_err-front-clause-grows
returns-in_err-front-clause-grows g c = caught_up_more c.args.drive.now.ledger _ _ c.meet.ensures.session c.meet.ensures.grows
