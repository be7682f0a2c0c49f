use Rattle.std.proofs.Common.{◌≡◌, IfOk, sym, subst}
use Rattle.window.specs.Timeline.{Plan, IsPlanned}
use Rattle.window.proofs.Planning.{planned_again}
use Rattle.window.proofs.window.Window.shortened.Goals as goal

pub returns-then-is_too_long-clause-planned : goal.returns-then-is_too_long-clause-planned
returns-then-is_too_long-clause-planned c =
    let plan : Plan = record { span = c.plan.inside.span; fresh = c.plan.inside.fresh; count = c.plan.inside.count; own = c.plan.inside.own } in
    let P : Plan → Type 0 = λ x. IsPlanned c.args.self.now x in
    let Q : Plan → Type 0 = λ x. IfOk c.plan_all.result (λ p. (p.span ≡ x.span) × IsPlanned c.args.self.now p) in
    subst Q c.plan.view_is (planned_again c.args.self.now plan c.plan_all.result (subst P (sym c.plan.view_is) c.requires) c.plan_all.ensures.made)
