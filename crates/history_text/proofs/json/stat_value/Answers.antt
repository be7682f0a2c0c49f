use Rattle.std.proofs.Common.{refl}
use Rattle.history_text.proofs.json.stat_value.Goals as goal

pub returns : goal.returns
returns c =
    let kinds = c.with_member-made.ensures _ _ c.no_members.ensures c.in_ok-kinds.ensures in
    let object = c.with_number-made.ensures _ _ kinds c.number.ensures in
    let changes = c.with_number-made-2.ensures _ _ object refl in
    let first = c.with_number-made-3.ensures _ _ changes c.number-2.ensures in
    let first_time = c.with_time-made.ensures _ _ first refl in
    let last = c.with_number-made-4.ensures _ _ first_time c.number-3.ensures in
    c.object_of.ensures _ (c.with_time.ensures _ _ last refl)
