use Rattle.std.proofs.Common.{refl}
use Rattle.history_diff.proofs.json.difference_members.Goals as goal

pub returns : goal.returns
returns c =
    let object = c.with_number-made.ensures _ _ c.no_members.ensures c.number.ensures in
    let kind = c.with_text-made.ensures _ _ object c.kind_word.ensures in
    let size_before = c.with_number-made-2.ensures _ _ kind refl in
    let size_after = c.with_number-made-3.ensures _ _ size_before refl in
    let before = c.with_member-made.ensures _ _ size_after c.in_ok-sides.ensures.before in
    let after = c.with_member-made-2.ensures _ _ before c.in_ok-sides.ensures.after in
    c.with_member.ensures _ _ after refl
