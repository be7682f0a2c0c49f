use Rattle.std.proofs.Common.{refl}
use Rattle.restore_orders.proofs.lines.remade_value.Goals as goal

pub returns : goal.returns
returns c = c.object_of.ensures _ (c.with_number.ensures _ _ (c.done_members-made.ensures _ refl) refl)
