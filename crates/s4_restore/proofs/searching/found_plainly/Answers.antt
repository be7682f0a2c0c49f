use Rattle.std.proofs.Common.{◌∙◌, Option, ap, refl, subst, sym}
use Rattle.drive.specs.Fields.{DriveFields}
use Rattle.s4_images.specs.Commands.{OverImage}
use Rattle.restore_search.specs.Searching.{numbers_of}
use Rattle.restore_search.specs.declared.surveys.Survey.{Survey}
use Rattle.restore_trials.specs.Surveys.{Finds, Serves}
use Rattle.s4_restore.proofs.Finding.{fails_by_survey}
use Rattle.s4_restore.proofs.Learning.{served_by}
use Rattle.s4_restore.proofs.searching.found_plainly.Goals as goal

pub returns-then-not-lacks_nothing-clause-found : goal.returns-then-not-lacks_nothing-clause-found
returns-then-not-lacks_nothing-clause-found g c =
    let known = g.F.Files.contents c.args.trials.now.files.now c.args.trials.now.asked.now.image.now in
    let order = c.order_with-order.result in
    let asked = c.order_with-order.ensures in
    fails_by_survey known c.args.trials.now.asked.now c.args.trials.now.stand_ins.now c.args.means order c.in-Some.survey asked.asks asked.means asked.full asked.skipped
    (subst (λ (found : Option Survey). OverImage known (λ (d : DriveFields). Finds d order found)) c.in-Some.is c.in_ok-found.ensures.finds) c.if-not-lacks_nothing.ensures

pub returns-clause-found : goal.returns-clause-found
returns-clause-found g c =
    let known = g.F.Files.contents c.args.trials.now.files.now c.args.trials.now.asked.now.image.now in
    let order = c.order_with-order.result in
    let asked = c.order_with-order.ensures in
    record {
      by_means = refl;
      served = served_by known c.args.trials.now.asked.now c.args.trials.now.stand_ins.now c.args.means c.new.result.items (numbers_of c.new-2.result.items) order asked.asks asked.means (asked.full ∙ sym c.new.ensures.items) (asked.skipped ∙ ap numbers_of (sym c.new-2.ensures.items)) c.in-Some.survey
          (subst (λ (found : Option Survey). OverImage known (λ (d : DriveFields). Serves d order found)) c.in-Some.is c.in_ok-found.ensures.serves) c.if-not-is_fine.ensures;
      full = c.new.ensures.items;
      lacking = c.new-2.ensures.items;
    }
