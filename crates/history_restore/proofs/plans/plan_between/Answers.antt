use Rattle.std.proofs.Common.{◌∙◌, sym}
use Rattle.history_restore.proofs.Again.{idle_is_same}
use Rattle.history_restore.proofs.plans.plan_between.Goals as goal

pub returns-then-is_idle-clause-plan : goal.returns-then-is_idle-clause-plan
returns-then-is_idle-clause-plan c = idle_is_same c.args.bytes.now c.args.attribute.now c.args.now.now c.args.attribute_now.now c.changes_between-changes.result c.changes_between-changes.ensures.changes (sym c.is_idle.ensures ∙ c.if-is_idle.true)
