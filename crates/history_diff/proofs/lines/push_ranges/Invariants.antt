use Rattle.std.proofs.Common.{◌≡◌, ◌++◌, take, string_bytes}
use Rattle.std.specs.List.{flat_map}
use Rattle.history_diff.specs.Lines.{range_text}
use Rattle.history_diff.proofs.lines.push_ranges.Given as goal

-- the ranges so far are after the text
abbrev pub invariant-loop-range : goal.invariant-loop-range
invariant-loop-range l = string_bytes l.text ≡ string_bytes l.initial.text ++ flat_map range_text (take l.range-index l.ranges)
