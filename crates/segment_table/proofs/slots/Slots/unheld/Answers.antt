use Rattle.std.proofs.Common.{take, ap, sym, ◌∙◌}
use Rattle.segment_table.proofs.HeldCounts.{held_count, none_counted}
use Rattle.segment_table.proofs.slots.Slots.unheld.Goals as goal

pub invariant_of-result : goal.invariant_of-result
invariant_of-result c = sym (ap held_count c.loop-role.invariant.1 ∙ none_counted (take c.loop-role.role-index c.args.roles.now))
