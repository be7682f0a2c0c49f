use Rattle.std.proofs.Common.{refl}
use Rattle.restore_orders.proofs.lines.done_value.Goals as goal

pub returns : goal.returns
returns c = c.object_of.ensures _ (c.done_members.ensures _ refl)
