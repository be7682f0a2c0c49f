use Rattle.std.proofs.Common.{ap, ◌∙◌}
use Rattle.std.proofs.lemmas.Result.{IfOk-weaker}
use Rattle.image_update.specs.Changes.{Changes, patched}
use Rattle.image_update.specs.Pairs.{changes_of}
use Rattle.image_update.proofs.Cuts.{difference_gives}
use Rattle.image_update.proofs.differing.difference_between.Goals as goal

pub returns-clause-whole : goal.returns-clause-whole
returns-clause-whole c =
    let old = c.args.old.now in
    IfOk-weaker c.within_largest.result _ _ (λ d is. ap (λ (q : Changes). patched q old) (is ∙ ap changes_of c.in_ok-out.ensures.built) ∙ difference_gives old c.args.new.now) c.within_largest.ensures.exact
