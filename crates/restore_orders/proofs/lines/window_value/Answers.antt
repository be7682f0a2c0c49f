use Rattle.std.proofs.Common.{refl}
use Rattle.restore_orders.proofs.lines.window_value.Goals as goal

pub returns : goal.returns
returns c =
    let widened = c.with_text-made.ensures _ _ c.no_members.ensures refl in
    let from = c.with_number-made.ensures _ _ widened refl in
    c.object_of.ensures _ (c.with_number.ensures _ _ from refl)
