use Rattle.std.proofs.Common.{map, string_bytes}
use Rattle.line_diff.specs.Script.{row_of}
use Rattle.line_diff.specs.private.Reaching.{IsReached}
use Rattle.line_diff.proofs.script.rows_through.Given as goal

-- the rows so far turn the lines up to the place
abbrev pub invariant-loop-place : goal.invariant-loop-place
invariant-loop-place l = IsReached (map string_bytes l.old) (map string_bytes l.new) l.at (map row_of l.rows.items)
