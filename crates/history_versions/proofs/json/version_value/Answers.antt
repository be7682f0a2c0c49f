use Rattle.std.proofs.Common.{rules, ◌≡◌, ◌∙◌, ap, refl}
use Rattle.history_versions.proofs.json.version_value.Goals as goal

pub returns : goal.returns
returns c =
    let attribute = c.with_hex-made.ensures _ _ c.no_members.ensures refl in
    let changed = c.with_number-made.ensures _ _ attribute c.number.ensures in
    let changed_time = c.with_member-made.ensures _ _ changed c.in_ok-changed_time.ensures in
    let moment = c.with_number-made-2.ensures _ _ changed_time c.number-2.ensures in
    let size = c.with_number-made-3.ensures _ _ moment refl in
    let time = c.with_member-made-2.ensures _ _ size c.in_ok-time.ensures in
    c.object_of.ensures _ (c.with_contents.ensures _ time)
