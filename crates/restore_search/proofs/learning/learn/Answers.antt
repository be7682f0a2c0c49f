use Rattle.restore_search.specs.declared.searches.Search.{Search}
use Rattle.restore_search.proofs.Knowing.{learns_left, learns_tried}
use Rattle.restore_search.proofs.learning.learn.Goals as goal

pub returns-then-branch-clause-learns : goal.returns-then-branch-clause-learns
returns-then-branch-clause-learns c =
    let middle : Search = record { hidings = c.in_ok-turned.turned.kept; lacking = c.turn_all.new.lacking } in
    learns_tried c.args.flush c.args.search.now c.args.survey.now _ _ middle c.begin_all.new.search c.as_slice-hidings.ensures.value c.as_slice.ensures.value c.in_ok-turned.ensures.turns c.in_ok-begin_all.ensures.begins

pub returns-then-is_fine-clause-learns : goal.returns-then-is_fine-clause-learns
returns-then-is_fine-clause-learns c =
    let middle : Search = record { hidings = c.in_ok-turned.turned.kept; lacking = c.turn_all.new.lacking } in
    learns_tried c.args.flush c.args.search.now c.args.survey.now _ _ middle c.begin_all.new.search c.as_slice-hidings.ensures.value c.as_slice.ensures.value c.in_ok-turned.ensures.turns c.in_ok-begin_all.ensures.begins

pub returns-clause-learns : goal.returns-clause-learns
returns-clause-learns c =
    let middle : Search = record { hidings = c.in_ok-turned.turned.kept; lacking = c.turn_all.new.lacking } in
    learns_left c.args.flush c.args.search.now c.args.survey.now c.begin_all.new.search c.leave_rest.new.search
    (learns_tried c.args.flush c.args.search.now c.args.survey.now _ _ middle c.begin_all.new.search c.as_slice-hidings.ensures.value c.as_slice.ensures.value c.in_ok-turned.ensures.turns c.in_ok-begin_all.ensures.begins)
    c.in_ok-leave_rest.ensures.leaves
