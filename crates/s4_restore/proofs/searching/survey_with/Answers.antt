use Rattle.std.proofs.Common.{◌∙◌, ap, map}
use Rattle.std.proofs.lemmas.Result.{IfOk-weaker}
use Rattle.restore_search.specs.Searching.{numbers_of, room_tried}
use Rattle.s4_restore.proofs.Learning.{served, shown}
use Rattle.s4_restore.proofs.searching.survey_with.Goals as goal

pub returns-clause-shows : goal.returns-clause-shows
returns-clause-shows g c =
    let known = g.F.Files.contents c.args.trials.now.files.now c.args.trials.now.asked.now.image.now in
    let asked = c.order_with-order.ensures in
    IfOk-weaker c.survey_image.result _ _
    (λ found over. shown known c.args.trials.now.asked.now c.args.trials.now.stand_ins.now c.args.means c.args.search.now.hidings.items c.order_with-order.result asked.asks asked.means
    (asked.full ∙ (c.as_slice-3.ensures.value ∙ (c.in_ok-full.ensures ∙ ap (map room_tried) c.as_slice.ensures.value))) found over)
    c.survey_image.ensures.finds

pub returns-clause-serves : goal.returns-clause-serves
returns-clause-serves g c =
    let known = g.F.Files.contents c.args.trials.now.files.now c.args.trials.now.asked.now.image.now in
    let asked = c.order_with-order.ensures in
    IfOk-weaker c.survey_image.result _ _
    (λ found over. served known c.args.trials.now.asked.now c.args.trials.now.stand_ins.now c.args.means (map room_tried c.args.search.now.hidings.items) (numbers_of c.args.search.now.lacking.items) c.order_with-order.result asked.asks asked.means
    (asked.full ∙ (c.as_slice-3.ensures.value ∙ (c.in_ok-full.ensures ∙ ap (map room_tried) c.as_slice.ensures.value)))
    (asked.skipped ∙ (c.as_slice-4.ensures.value ∙ (c.in_ok-skipped.ensures ∙ ap numbers_of c.as_slice-2.ensures.value))) found over)
    c.survey_image.ensures.serves
