use Rattle.std.proofs.Common.{rules, ◌≡◌, ℕ, List, IfOk, refl, subst}
use Rattle.serde_json.specs.Data.{boolean}
use Rattle.serde_json.specs.View.{members_view, view}
use Rattle.history_export.specs.Manifest.{file_members}
use Rattle.image_salvage.specs.Manifest.{unlisted_name}
use Rattle.image_salvage.proofs.manifest.unlisted_value.Goals as goal

pub returns : goal.returns
returns c =
    let row = c.args.row.now in
    let left_out-is : view c.from.result ≡ boolean c.args.left_out = search rules in
    let named : c.as_str.result.now ≡ unlisted_name row.object = search rules in
    let file = subst (λ (f : List ℕ). IfOk c.file_members-made.result (λ map. members_view map.entries ≡ file_members f row c.args.content.now)) named c.file_members-made.ensures in
    let object = c.with_number-made.ensures _ _ file c.number.ensures in
    let gone = c.with_number-made-2.ensures _ _ object refl in
    c.object_of.ensures _ (c.with_member.ensures _ _ gone left_out-is)
