use Rattle.std.proofs.Common.{◌≡◌, ◌∙◌}
use Rattle.serving.specs.declared.ends.ServeEnd.TheVariants.{Ended}
use Rattle.server.specs.declared.running.Outcome.TheVariants.{Served}
use Rattle.std.proofs.lemmas.List.{get_or_default}
use Rattle.s4d.proofs.Ends.{all_more}
use Rattle.s4d.proofs.running.tell_sessions.Goals as goal

pub loop-place-preserved : goal.loop-place-preserved
loop-place-preserved g c =
    let client = c.index-served-place.result in
    all_more (λ x. x.outcome ≡ Served Ended) c.args.served.now c.loop-place.place client c.loop-place.is_ended c.tell_session-is_ended.result
    (λ d. c.index-served-place.is ∙ get_or_default c.args.served.now c.loop-place.place client d c.loop-place-test.true) c.loop-place.invariant c.tell_session-is_ended.ensures
