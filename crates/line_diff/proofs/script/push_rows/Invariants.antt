use Rattle.std.proofs.Common.{◌≡◌, ◌++◌, map, take, string_bytes}
use Rattle.line_diff.specs.Script.{row_of, row_with}
use Rattle.line_diff.proofs.script.push_rows.Given as goal

-- the lines so far have their rows
abbrev pub invariant-loop-line : goal.invariant-loop-line
invariant-loop-line l = map row_of l.rows.items ≡ map row_of l.initial.rows.items ++ map (row_with l.sign) (map string_bytes (take l.line-index l.lines))
