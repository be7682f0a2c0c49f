use Rattle.std.proofs.Common.{rules, ◌≡◌, ◌∙◌, ◌++◌, List, map, string_bytes, ap, ap₂, sym, subst}
use Rattle.line_diff.specs.Script.{TextRow, row_of, Turns}
use Rattle.line_diff.specs.private.Reaching.{change_rows}
use Rattle.line_diff.proofs.Turning.{reached_all}
use Rattle.line_diff.proofs.script.rows_through.Goals as goal

pub returns : goal.returns
returns c =
    let l = c.loop-place in
    let old = map string_bytes c.args.old.now in
    let new = map string_bytes c.args.new.now in
    let rows = map row_of l.rows.items in
    let change : map row_of c.push_change.new.rows.items ≡ rows ++ change_rows (map string_bytes c.later_lines-removed.result.now) (map string_bytes c.later_lines-added.result.now) = search rules in
    let whole = change ∙ ap (λ (x : List TextRow). rows ++ x) (ap₂ change_rows c.later_lines-removed.ensures c.later_lines-added.ensures) in
    subst (Turns old new) (sym whole) (reached_all old new l.at rows l.invariant)
