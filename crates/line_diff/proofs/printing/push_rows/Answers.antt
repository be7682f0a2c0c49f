use Rattle.std.proofs.Common.{rules, ◌≡◌, ◌∙◌, ◌<◌, ◌++◌, List, length, take, take_all, string_bytes, flat_map, ap, sym, arith}
use Rattle.std.proofs.lemmas.List.Folds.{flat_map-map}
use Rattle.line_diff.specs.declared.script.Row.{Row}
use Rattle.line_diff.specs.Script.{row_of}
use Rattle.line_diff.specs.Unified.{row_text}
use Rattle.line_diff.proofs.printing.push_rows.Goals as goal
use Rattle.lemmas.proofs.List.{flat_map_next}

pub loop-row-preserved : goal.loop-row-preserved
loop-row-preserved c =
    let rows = c.args.rows.now in
    let i = c.loop-row.row-index in
    let lt : i < length rows = omega arith in
    let grown : string_bytes c.push_row.new.text ≡ string_bytes c.loop-row.text ++ row_text (row_of c.row-item.result) = search rules in
    flat_map_next (λ row. row_text (row_of row)) rows i c.row-item.result (string_bytes c.args.text.now) (string_bytes c.loop-row.text) (string_bytes c.push_row.new.text) lt c.row-item.is c.loop-row.invariant grown

pub returns : goal.returns
returns c =
    let rows = c.args.rows.now in
    let text = string_bytes c.args.text.now in
    let all : take c.loop-row.row-index rows ≡ rows = take_all c.loop-row.row-index rows (omega arith) in
    c.loop-row.invariant ∙ ap (λ (l : List Row). text ++ flat_map (λ row. row_text (row_of row)) l) all ∙ ap (λ t. text ++ t) (sym (flat_map-map row_text row_of rows))
