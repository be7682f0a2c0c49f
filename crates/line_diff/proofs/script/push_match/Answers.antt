use Rattle.std.proofs.Common.{rules, ◌≡◌, ◌∙◌, ◌+◌, ◌-◌, ◌++◌, List, map, take, drop, string_bytes, ap, ap₂, sym, subst, arith}
use Rattle.line_diff.specs.declared.script.Sign.TheVariants.{Kept}
use Rattle.line_diff.specs.Script.{TextRow, row_of, row_with}
use Rattle.line_diff.specs.private.Reaching.{change_rows, IsReached, IsNextMatch}
use Rattle.line_diff.proofs.Lists.{range_seen}
use Rattle.line_diff.proofs.Turning.{reached_more}
use Rattle.line_diff.proofs.script.push_match.Goals as goal

pub returns : goal.returns
returns c =
    let old_lines = c.args.old.now in
    let new_lines = c.args.new.now in
    let old = map string_bytes old_lines in
    let new = map string_bytes new_lines in
    let at = c.args.at in
    let place = c.args.place in
    let rows = map row_of c.args.rows.now.items in
    let next : IsNextMatch old new at place = search rules in
    let change : map row_of c.push_change.new.rows.items ≡ rows ++ change_rows (map string_bytes (take (place.old - at.old) (drop at.old old_lines))) (map string_bytes (take (place.new - at.new) (drop at.new new_lines))) = search rules in
    let kept : map row_of c.push_rows.new.rows.items ≡ map row_of c.push_change.new.rows.items ++ map (row_with Kept) (map string_bytes (take (place.old + 1 - place.old) (drop place.old old_lines))) = search rules in
    let whole = kept ∙ ap₂ (λ (x y : List TextRow). x ++ y) (change ∙ ap (λ (x : List TextRow). rows ++ x) (ap₂ change_rows (range_seen string_bytes old_lines at.old place.old) (range_seen string_bytes new_lines at.new place.new)))
    (ap (map (row_with Kept)) (range_seen string_bytes old_lines place.old (place.old + 1))) in
    subst (IsReached old new (record { old = place.old + 1; new = place.new + 1 })) (sym whole) (reached_more old new at place rows (place.old + 1 - place.old) (omega arith) c.requires next)
