use Rattle.std.proofs.Common.{◌∙◌, Option, IfSome, map, subst}
use Rattle.restore_search.specs.Searching.{IsFine, numbers_of, room_tried}
use Rattle.restore_search.specs.declared.surveys.Survey.{Survey}
use Rattle.s4_restore.specs.Searching.{IsServed}
use Rattle.s4_restore.proofs.Learning.{found_on, knows_after}
use Rattle.s4_restore.proofs.searching.found_by.Goals as goal

pub loop-preserved : goal.loop-preserved
loop-preserved g c =
    let known = g.F.Files.contents c.args.trials.now.files.now c.args.trials.now.asked.now.image.now in
    record {
      knows = knows_after known c.args.trials.now.asked.now c.args.trials.now.stand_ins.now c.args.means c.loop.search c.learn.new.search c.in_ok-found.found c.in-Some.survey c.in-Some.is c.loop.invariant.knows c.in_ok-found.ensures.shows c.in-Ok-true.ensures.learns;
      passed = c.survey_with.ensures.passed ∙ c.loop.invariant.passed;
      failures = c.survey_with.ensures.failures ∙ c.loop.invariant.failures;
    }

pub returns-in-Ok-false-clause-found : goal.returns-in-Ok-false-clause-found
returns-in-Ok-false-clause-found g c =
    let known = g.F.Files.contents c.args.trials.now.files.now c.args.trials.now.asked.now.image.now in
    let restore = c.args.trials.now.asked.now in
    let stand_ins = c.args.trials.now.stand_ins.now in
    let search = c.loop.search in
    let found = c.in_ok-findings-in-Ok-false in
    let learns = c.in-Ok-false.ensures in
    let tried : IsFine c.in-Some.survey → IsServed known restore stand_ins c.args.means (map room_tried search.hidings.items) (numbers_of search.lacking.items) =
    subst (λ (f : Option Survey). IfSome f (λ (survey : Survey). IsFine survey → IsServed known restore stand_ins c.args.means (map room_tried search.hidings.items) (numbers_of search.lacking.items))) c.in-Some.is c.in_ok-found.ensures.serves in
    found_on known restore stand_ins c.args.means search c.learn.new.search found.findings
    (knows_after known restore stand_ins c.args.means search c.learn.new.search c.in_ok-found.found c.in-Some.survey c.in-Some.is c.loop.invariant.knows c.in_ok-found.ensures.shows learns.learns)
    (tried (learns.ends c.in-Ok-false.field-0-test)) (learns.settled c.in-Ok-false.field-0-test) found.ensures.means found.ensures.full found.ensures.lacking
