use Rattle.std.proofs.Common.{◌≡◌, ◌+◌, drop}
use Rattle.history_report.specs.Differences.{lines_end}
use Rattle.history_report.proofs.differences.lines_end.Given as goal

-- what is left of the lines ends in what is left of the bytes
abbrev pub invariant-loop-index : goal.invariant-loop-index
invariant-loop-index l = lines_end l.fn.lines l.bytes ≡ l.index + lines_end l.left (drop l.index l.bytes)
