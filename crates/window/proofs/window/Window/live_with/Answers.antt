use Rattle.std.proofs.Common.{sym, ap, subst, ◌∙◌}
use Rattle.window.specs.Runs.{AllEndFrom}
use Rattle.window.specs.Chunks.{flat}
use Rattle.window.proofs.OwnCounts.{live_with}
use Rattle.window.proofs.window.Window.live_with.Goals as goal

pub sift_with-requires : goal.sift_with-requires
sift_with-requires c =
    live_with c.self.inside.floor c.args.span.now c.as_slice-2.result.now c.in_ok-runs.runs.items c.in_ok-runs.ensures.ok (subst (AllEndFrom c.self.inside.floor) (sym (c.as_slice-2.ensures.value ∙ c.in_ok-all.ensures.ok ∙ ap flat c.as_slice.ensures.value)) c.self.invariant.5)
