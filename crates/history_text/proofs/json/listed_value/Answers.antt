use Rattle.std.proofs.Common.{rules, ◌≡◌, ◌∙◌, refl, ap}
use Rattle.history_text.specs.Json.{text_data}
use Rattle.history_text.proofs.json.listed_value.Goals as goal

pub returns : goal.returns
returns c =
    let size-is : c.from.result ≡ c.args.row.now.size = search rules in
    let object = c.with_number-made.ensures _ _ c.no_members.ensures c.number.ensures in
    let state = c.with_text-made.ensures _ _ object c.state_word.ensures in
    let size = c.with_number-made-2.ensures _ _ state size-is in
    let created = c.with_number-made-3.ensures _ _ size c.number-2.ensures in
    let created_time = c.with_time-made.ensures _ _ created refl in
    let changed = c.with_number-made-4.ensures _ _ created_time c.number-3.ensures in
    let changed_time = c.with_time-made-2.ensures _ _ changed refl in
    let attribute = c.with_hex-made.ensures _ _ changed_time c.as_slice-2.ensures.value in
    let text = c.in_ok-attribute_text.ensures ∙ ap text_data c.as_slice.ensures.value in
    c.object_of.ensures _ (c.with_member.ensures _ _ attribute text)
