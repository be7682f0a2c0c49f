use Rattle.std.proofs.Common.{refl}
use Rattle.history_text.proofs.json.kinds_value.Goals as goal

pub returns : goal.returns
returns c =
    let made = c.with_number-made.ensures _ _ c.no_members.ensures refl in
    let deleted = c.with_number-made-2.ensures _ _ made refl in
    let attribute = c.with_number-made-3.ensures _ _ deleted refl in
    let written = c.with_number-made-4.ensures _ _ attribute refl in
    let cut = c.with_number-made-5.ensures _ _ written refl in
    let lengthened = c.with_number-made-6.ensures _ _ cut refl in
    c.object_of.ensures _ (c.with_number.ensures _ _ lengthened refl)
