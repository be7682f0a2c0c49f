use Rattle.std.proofs.Common.{◌≡◌, map, take}
use Rattle.serde_json.specs.View.{view}
use Rattle.history_diff.specs.Json.{range_data}
use Rattle.history_diff.proofs.json.ranges_value.Given as goal

-- the ranges so far have their values
abbrev pub invariant-loop-range : goal.invariant-loop-range
invariant-loop-range l = map view l.values.items ≡ map (range_data l.patch l.before l.after) (take l.range-index l.ranges)
