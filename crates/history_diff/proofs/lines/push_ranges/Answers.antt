use Rattle.std.proofs.Common.{rules, ◌≡◌, ◌<◌, ◌++◌, length, get_or, string_bytes, arith}
use Rattle.std.proofs.lemmas.List.{get_or_default}
use Rattle.lemmas.proofs.List.{flat_map_next}
use Rattle.history_diff.specs.declared.ranges.ByteRange.{ByteRange}
use Rattle.history_diff.specs.Lines.{range_text}
use Rattle.history_diff.proofs.lines.push_ranges.Goals as goal

pub loop-range-preserved : goal.loop-range-preserved
loop-range-preserved c =
    let ranges = c.args.ranges.now in
    let i = c.loop-range.range-index in
    let lt : i < length ranges = omega arith in
    let none : ByteRange = record { first = 0; last = 0 } in
    let range : ByteRange = get_or ranges i none in
    let grown : string_bytes c.push_str.new.self ≡ string_bytes c.loop-range.text ++ range_text (get_or ranges i (record { first = 0; last = 0 })) = search rules in
    flat_map_next range_text ranges i range (string_bytes c.args.text.now) (string_bytes c.loop-range.text) (string_bytes c.push_str.new.self) lt (get_or_default ranges i none range lt) c.loop-range.invariant grown
