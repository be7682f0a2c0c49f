use Rattle.std.proofs.Common.{rules, ◌≡◌, ℕ, List, IfOk, subst}
use Rattle.serde_json.specs.View.{members_view}
use Rattle.history_export.specs.Manifest.{file_members, file_name}
use Rattle.history_export.proofs.manifest.object_members.Goals as goal

pub returns : goal.returns
returns c =
    let row = c.args.row.now in
    let named : c.as_str.result.now ≡ file_name row.object = search rules in
    let file = subst (λ (f : List ℕ). IfOk c.file_members-made.result (λ map. members_view map.entries ≡ file_members f row c.args.content.now)) named c.file_members-made.ensures in
    c.with_number.ensures _ _ file c.number.ensures
