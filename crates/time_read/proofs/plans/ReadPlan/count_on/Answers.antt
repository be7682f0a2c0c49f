use Rattle.std.proofs.Common.{Some, ap, ◌∙◌}
use Rattle.time_read.specs.Plans.{PlanFields, pins_held}
use Rattle.time_read.proofs.Counting.{counts_on}
use Rattle.time_read.proofs.plans.ReadPlan.count_on.Goals as goal

pub returns-clause-counts : goal.returns-clause-counts
returns-clause-counts c =
    let told = c.count_on-counted.ensures in
    counts_on c.args.table.now c.args.place c.args.self.now _ c.in_ok-pin.pin c.count_on-counted.new.pin c.count_on-counted.result
    c.in_ok-pin.ensures.pin.0 (c.in_ok-pin.ensures.pin.1 ∙ ap pins_held (c.take.ensures.value ∙ ap (λ (p : PlanFields). p.pin) c.self.view_is))
    told.again told.pinned told.counted told.bytes told.table c.requires.held
    (ap (λ (p : PlanFields). record p { pin = Some c.count_on-counted.new.pin }) c.self.view_is)
