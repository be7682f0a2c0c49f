use Rattle.restore_orders.proofs.lines.hidden_value.Goals as goal

pub returns : goal.returns
returns c =
    let first = c.with_number-made.ensures _ _ (c.done_members-made.ensures _ c.number.ensures) c.number-2.ensures in
    c.object_of.ensures _ (c.with_number.ensures _ _ first c.number-3.ensures)
