use Rattle.std.proofs.Common.{rules, ◌≡◌, refl}
use Rattle.serde_json.specs.Data.{boolean}
use Rattle.serde_json.specs.View.{view}
use Rattle.image_salvage.proofs.counts.given_value.Goals as goal

pub returns : goal.returns
returns c =
    let damaged-is : view c.from.result ≡ boolean c.args.given.now.damaged = search rules in
    let objects = c.with_number-made.ensures _ _ c.no_members.ensures refl in
    let blocks_gone = c.with_number-made-2.ensures _ _ objects refl in
    let lost_objects = c.with_number-made-3.ensures _ _ blocks_gone refl in
    let lost_frames = c.with_number-made-4.ensures _ _ lost_objects refl in
    let unlisted = c.with_number-made-5.ensures _ _ lost_frames refl in
    let left_out = c.with_number-made-6.ensures _ _ unlisted refl in
    c.object_of.ensures _ (c.with_member.ensures _ _ left_out damaged-is)
