use Rattle.time_read.proofs.Locating.{located_hole, located_copied, located_pinned}
use Rattle.time_read.proofs.plans.ReadPlan.locate.Goals as goal

pub returns-in_default-clause-located : goal.returns-in_default-clause-located
returns-in_default-clause-located c = located_hole c.args.table.now c.args.slot c.args.self.now c.requires.at c.in_default.is

pub returns-then-is_open-clause-located : goal.returns-then-is_open-clause-located
returns-then-is_open-clause-located c = located_copied c.args.table.now c.args.slot c.in-Some.place c.args.self.now c.requires.at c.in-Some.is c.if-is_open.ensures

pub returns-clause-located : goal.returns-clause-located
returns-clause-located c = located_pinned c.args.table.now c.args.slot c.in-Some.place c.args.self.now c.count_on.new.self c.in-Some.is c.if-is_open.ensures c.in_ok-count_on.ensures.counts
