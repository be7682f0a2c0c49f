use Rattle.std.proofs.Common.{rules, ◌≡◌, refl}
use Rattle.history_text.proofs.json.change_value.Goals as goal

pub returns : goal.returns
returns c =
    let before-is : c.from.result ≡ c.args.change.now.size_before = search rules in
    let after-is : c.from-2.result ≡ c.args.change.now.size_after = search rules in
    let moment = c.with_number-made.ensures _ _ c.no_members.ensures c.number.ensures in
    let time = c.with_time-made.ensures _ _ moment refl in
    let object = c.with_number-made-2.ensures _ _ time c.number-2.ensures in
    let kind = c.with_text-made.ensures _ _ object c.kind_word.ensures in
    let size_before = c.with_number-made-3.ensures _ _ kind before-is in
    let size_after = c.with_number-made-4.ensures _ _ size_before after-is in
    let first = c.with_member-made.ensures _ _ size_after c.block_values-ends.ensures.first in
    let last = c.with_member-made-2.ensures _ _ first c.block_values-ends.ensures.last in
    let before = c.with_member-made-3.ensures _ _ last c.in_ok-sides.ensures.before in
    c.object_of.ensures _ (c.with_member.ensures _ _ before c.in_ok-sides.ensures.after)
