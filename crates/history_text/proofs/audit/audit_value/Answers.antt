use Rattle.std.proofs.Common.{refl}
use Rattle.history_text.proofs.audit.audit_value.Goals as goal

pub returns : goal.returns
returns c =
    let what = c.with_member-made.ensures _ _ c.no_members.ensures c.in_ok-what.ensures in
    let moment = c.with_number-made.ensures _ _ what c.number.ensures in
    let time = c.with_time-made.ensures _ _ moment refl in
    let kind = c.with_text-made.ensures _ _ time c.kind_word.ensures in
    c.object_of.ensures _ (c.with_number.ensures _ _ kind c.number-2.ensures)
