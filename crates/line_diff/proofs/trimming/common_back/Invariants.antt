use Rattle.std.proofs.Common.{◌≡◌, ◌-◌, map, drop, length, string_bytes}
use Rattle.line_diff.proofs.trimming.common_back.Given as goal

-- the last lines so far are the same
abbrev pub invariant-loop-count : goal.invariant-loop-count
invariant-loop-count l = drop (length (map string_bytes l.old) - l.count) (map string_bytes l.old) ≡ drop (length (map string_bytes l.new) - l.count) (map string_bytes l.new)
