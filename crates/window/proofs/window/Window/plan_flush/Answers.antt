use Rattle.std.proofs.Common.{◌≡◌, ◌<◌, inr, true, false, refl, sym, subst}
use Rattle.s4_types.specs.declared.spans.Span.{Span}
use Rattle.s4_model.specs.Refusals.{is_one_span_too_many}
use Rattle.s4_model.specs.State.{State}
use Rattle.window.specs.Chunks.{flat}
use Rattle.window.specs.Timeline.{Timeline, Plan, StandsFor, IsMade}
use Rattle.window.proofs.Live.{ends_by}
use Rattle.window.proofs.Standing.{refused_where, accepted_where, judged_by}
use Rattle.window.proofs.window.Window.plan_flush.Goals.{In_ok-plan}
use Rattle.window.proofs.window.Window.plan_flush.Goals as goal

-- the window as it was opened
abbrev line_of : In_ok-plan → Timeline
line_of c = record { clock = c.self.inside.clock; window = c.self.inside.window; floor = c.self.inside.floor; runs = flat c.self.inside.chunks.items; chunks = c.self.inside.chunks.items }

-- it stands for the state, and the plan is of the span
known : (c : In_ok-plan) (s : State) (plan : Plan) → plan ≡ c.in_ok-plan.plan → StandsFor c.args.self.now s → StandsFor (line_of c) s × ((plan.span ≡ c.args.span) × IsMade (line_of c) plan)
known c s plan is stands =
    let P : Timeline → Type 0 = λ x. StandsFor x s × IsMade x c.in_ok-plan.plan in
    let Q : Plan → Type 0 = λ x. (x.span ≡ c.args.span) × IsMade (line_of c) x in
    let stood : P (line_of c) = subst P (sym c.self.view_is) (stands, c.in_ok-plan.ensures.made.1) in
    (stood.0, subst Q (sym is) (c.in_ok-plan.ensures.made.0, stood.1))

pub returns-then-plan-gt-RUNS_IN_A_LIST-clause-judged : goal.returns-then-plan-gt-RUNS_IN_A_LIST-clause-judged
returns-then-plan-gt-RUNS_IN_A_LIST-clause-judged c = λ s stands given.
    let at = (goal.at.returns-then-plan-gt-RUNS_IN_A_LIST-clause-judged c).In_ok-plan in
    let plan : Plan = record { span = c.plan.inside.span; fresh = c.plan.inside.fresh; count = c.plan.inside.count; own = c.plan.inside.own } in
    let facts = known at s plan c.plan.view_is stands in
    let below : plan.span.object < s.next = subst (λ (span : Span). span.object < s.next) (sym facts.1.0) given in
    let w = line_of at in
    inr (refl, subst (λ (span : Span). is_one_span_too_many s span ≡ true) facts.1.0 (refused_where w s plan facts.0 (c.self.invariant.0, ends_by w.clock w.runs c.self.invariant.1) facts.1.1 below c.then-plan-gt-RUNS_IN_A_LIST.either))

pub returns-clause-judged : goal.returns-clause-judged
returns-clause-judged c = λ s stands given.
    let at = (goal.at.returns-clause-judged c).In_ok-plan in
    let plan : Plan = record { span = c.plan.inside.span; fresh = c.plan.inside.fresh; count = c.plan.inside.count; own = c.plan.inside.own } in
    let facts = known at s plan c.plan.view_is stands in
    let below : plan.span.object < s.next = subst (λ (span : Span). span.object < s.next) (sym facts.1.0) given in
    let w = line_of at in
    let few : is_one_span_too_many s c.args.span ≡ false =
    subst (λ (span : Span). is_one_span_too_many s span ≡ false) facts.1.0 (accepted_where w s plan facts.0 (c.self.invariant.0, ends_by w.clock w.runs c.self.invariant.1) facts.1.1 below c.if-plan-gt-RUNS_IN_A_LIST.false c.if-plan-gt-RUNS_IN_ALL.false) in
    judged_by c.shortened.result s c.args.span few c.shortened.ensures.err
