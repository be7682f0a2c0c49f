use Rattle.std.proofs.Common.{◌≡◌, map, take, string_bytes}
use Rattle.line_diff.proofs.trimming.common_front.Given as goal

-- the lines so far are the same
abbrev pub invariant-loop-index : goal.invariant-loop-index
invariant-loop-index l = take l.index (map string_bytes l.old) ≡ take l.index (map string_bytes l.new)
