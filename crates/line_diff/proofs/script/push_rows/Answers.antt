use Rattle.std.proofs.Common.{rules, ◌≡◌, ◌<◌, ◌++◌, [], ◌∷◌, map, length, string_bytes, ap, arith}
use Rattle.line_diff.specs.declared.script.Row.{Row}
use Rattle.line_diff.specs.Script.{row_of, row_with}
use Rattle.line_diff.proofs.Turning.{rows_more}
use Rattle.line_diff.proofs.script.push_rows.Goals as goal

pub loop-line-preserved : goal.loop-line-preserved
loop-line-preserved c =
    let lines = c.args.lines.now in
    let row : Row = record { sign = c.args.sign; line = c.in_ok-line.line } in
    let lt : c.loop-line.line-index < length lines = omega arith in
    let grown : c.push.new.self.items ≡ c.loop-line.rows.items ++ row ∷ [] = search rules in
    let line : string_bytes c.in_ok-line.line ≡ string_bytes c.line-item.result = search rules in
    rows_more string_bytes c.args.sign (map row_of c.args.rows.now.items) c.loop-line.rows.items c.push.new.self.items row lines c.loop-line.line-index c.line-item.result lt c.line-item.is c.loop-line.invariant grown (ap (row_with c.args.sign) line)
