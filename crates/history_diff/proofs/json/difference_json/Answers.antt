use Rattle.std.proofs.Common.{rules, ◌≡◌, ◌∙◌, ap}
use Rattle.serde_json.specs.Data.{Data}
use Rattle.serde_json.specs.View.{view}
use Rattle.serde_json.specs.Written.{has_float}
use Rattle.history_diff.specs.Differences.{told_of}
use Rattle.history_diff.specs.Json.{difference_data, ranges_data, text_members, has_bytes}
use Rattle.history_diff.specs.Texts.{detail_of, text_shown}
use Rattle.history_diff.proofs.Floats.{no_float}
use Rattle.history_diff.proofs.json.difference_json.Goals as goal

pub json_line-requires : goal.json_line-requires
json_line-requires c =
    let told = told_of c.args.difference.now in
    let detail = detail_of c.args.shown.now in
    let text = text_shown c.args.shown.now in
    let ranges : view c.in_ok-ranges.ranges ≡ ranges_data (has_bytes detail) c.args.before.now c.args.after.now told.ranges = search rules in
    let value : view c.in_ok-value.value ≡ difference_data c.args.object (view c.in_ok-ranges.ranges) (text_members detail text) told = search rules in
    ap has_float (value ∙ ap (λ (d : Data). difference_data c.args.object d (text_members detail text) told) ranges) ∙ no_float c.args.object (has_bytes detail) c.args.before.now c.args.after.now told.ranges detail text told
