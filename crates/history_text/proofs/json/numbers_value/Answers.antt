use Rattle.std.proofs.Common.{refl}
use Rattle.history_text.proofs.json.numbers_value.Goals as goal

pub returns : goal.returns
returns c =
    let hidden = c.with_member-made.ensures _ _ c.no_members.ensures c.in_ok-hidden.ensures in
    let time = c.with_member-made-2.ensures _ _ hidden c.in_ok-time.ensures in
    let frames = c.with_number-made.ensures _ _ time refl in
    let free = c.with_number-made-2.ensures _ _ frames refl in
    let retired = c.with_number-made-3.ensures _ _ free refl in
    let room = c.with_number-made-4.ensures _ _ retired refl in
    let live = c.with_number-made-5.ensures _ _ room refl in
    let deleted = c.with_number-made-6.ensures _ _ live refl in
    let next = c.with_number-made-7.ensures _ _ deleted refl in
    let clock = c.with_number-made-8.ensures _ _ next refl in
    let window = c.with_number-made-9.ensures _ _ clock refl in
    c.object_of.ensures _ (c.with_number.ensures _ _ window refl)
