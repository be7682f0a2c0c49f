use Rattle.std.proofs.Common.{◌≡◌, ◌++◌, take, string_bytes, flat_map}
use Rattle.line_diff.specs.Script.{row_of}
use Rattle.line_diff.specs.Unified.{row_text}
use Rattle.line_diff.proofs.printing.push_rows.Given as goal

-- the rows so far are after the text
abbrev pub invariant-loop-row : goal.invariant-loop-row
invariant-loop-row l = string_bytes l.text ≡ string_bytes l.initial.text ++ flat_map (λ row. row_text (row_of row)) (take l.row-index l.rows)
