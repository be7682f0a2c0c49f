use Rattle.std.proofs.Common.{refl}
use Rattle.restore_orders.proofs.lines.done_members.Goals as goal

pub returns : goal.returns
returns c = λ o same. c.with_text.ensures _ _ (c.with_number-made.ensures _ _ c.no_members.ensures same) refl
