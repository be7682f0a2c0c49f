use Rattle.std.proofs.Common.{rules, ◌≡◌, ◌<◌, ◌++◌, [], ◌∷◌, length, get_or, arith}
use Rattle.std.proofs.lemmas.List.{get_or_default}
use Rattle.serde_json.specs.View.{view}
use Rattle.history_diff.specs.declared.ranges.ByteRange.{ByteRange}
use Rattle.history_diff.specs.Json.{range_data}
use Rattle.history_diff.proofs.Took.{seen_more}
use Rattle.history_diff.proofs.json.ranges_value.Goals as goal

pub loop-range-preserved : goal.loop-range-preserved
loop-range-preserved c =
    let ranges = c.args.ranges.now in
    let i = c.loop-range.range-index in
    let lt : i < length ranges = omega arith in
    let none : ByteRange = record { first = 0; last = 0 } in
    let range : ByteRange = get_or ranges i none in
    let grown : c.push.new.self.items ≡ c.loop-range.values.items ++ c.in_ok-value.value ∷ [] = search rules in
    let made : view c.in_ok-value.value ≡ range_data c.args.patch c.args.before.now c.args.after.now (get_or ranges i (record { first = 0; last = 0 })) = search rules in
    seen_more view (range_data c.args.patch c.args.before.now c.args.after.now) c.loop-range.values.items c.push.new.self.items c.in_ok-value.value ranges i range lt (get_or_default ranges i none range lt) c.loop-range.invariant grown made
