use Rattle.std.proofs.Common.{rules, ◌≡◌, ◌∙◌, ap, refl}
use Rattle.sha2.specs.Sha256.{sha256}
use Rattle.history_text.specs.Json.{text_data}
use Rattle.history_export.proofs.manifest.file_members.Goals as goal

pub returns : goal.returns
returns c =
    let digest-is : c.as_slice-2.result.now ≡ sha256 c.args.content.now = search rules in
    let text-is = c.in_ok-attribute_text.ensures ∙ ap text_data c.as_slice.ensures.value in
    let file = c.with_text-made.ensures _ _ c.no_members.ensures refl in
    let size = c.with_number-made.ensures _ _ file refl in
    let digest = c.with_hex-made.ensures _ _ size digest-is in
    let attribute = c.with_hex-made-2.ensures _ _ digest c.as_slice-3.ensures.value in
    let attribute_text = c.with_member-made.ensures _ _ attribute text-is in
    let created = c.with_number-made-2.ensures _ _ attribute_text c.number.ensures in
    c.with_number.ensures _ _ created c.number-2.ensures
