use Rattle.std.proofs.Common.{◌≡◌, ◌++◌, map, length, string_bytes}
use denote.Text.{Utf8}
use denote.Shadow.{shadow}
use Rattle.line_diff.specs.Lines.{lines_of}
use Rattle.line_diff.proofs.lines.lines_of.Given as goal

-- the lines so far and those of the rest are all
abbrev pub invariant-loop-line : goal.invariant-loop-line
invariant-loop-line l = shadow (Utf8 l.rest) × (map string_bytes l.lines.items ++ lines_of l.rest ≡ lines_of l.fn.text)

abbrev pub decreases-loop-line : goal.decreases-loop-line
decreases-loop-line l = length l.rest
