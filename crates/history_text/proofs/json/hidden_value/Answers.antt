use Rattle.std.proofs.Common.{refl}
use Rattle.history_text.proofs.json.hidden_value.Goals as goal

pub returns : goal.returns
returns c =
    let moment = c.with_number-made.ensures _ _ c.no_members.ensures c.number.ensures in
    let time = c.with_time-made.ensures _ _ moment refl in
    let last = c.with_number-made-2.ensures _ _ time c.number-2.ensures in
    let last_time = c.with_time-made-2.ensures _ _ last refl in
    let object = c.with_number-made-3.ensures _ _ last_time c.number-3.ensures in
    c.object_of.ensures _ (c.with_text.ensures _ _ object refl)
