use Rattle.std.proofs.Common.{rules, ◌≡◌, ◌++◌, map, length, string_bytes, sym}
use Rattle.std.proofs.lemmas.List.{length-map}
use Rattle.line_diff.specs.declared.script.Sign.TheVariants.{Kept}
use Rattle.line_diff.specs.Script.{row_of, row_with, Turns}
use Rattle.line_diff.proofs.Scripts.{script_whole}
use Rattle.line_diff.proofs.script.script_of.Goals as goal

pub returns : goal.returns
returns c =
    let old_rest = c.later_lines-old_rest.result.now in
    let new_rest = c.later_lines-new_rest.result.now in
    let removed = c.first_lines-removed.result.now in
    let added = c.first_lines-added.result.now in
    let ending = c.later_lines-ending.result.now in
    let turns : Turns (map string_bytes removed) (map string_bytes added) (map row_of c.in_ok-changes.changes.items) = search rules in
    let begun : map row_of c.in_ok-begun.begun.items ≡ map (row_with Kept) (map string_bytes c.first_lines-kept.result.now) = search rules in
    let changed : map row_of c.in_ok-changed.changed.items ≡ map row_of c.in_ok-begun.begun.items ++ map row_of c.in_ok-changes.changes.items = search rules in
    let whole : map row_of c.in_ok-whole.whole.items ≡ map row_of c.in_ok-changed.changed.items ++ map (row_with Kept) (map string_bytes ending) = search rules in
    script_whole (map string_bytes c.args.old.now) (map string_bytes c.args.new.now) (map string_bytes c.first_lines-kept.result.now) (map string_bytes old_rest) (map string_bytes new_rest) (map string_bytes removed) (map string_bytes added) (map string_bytes ending)
    c.common_front-front.result c.common_back-back.result (length old_rest) (length new_rest) (map row_of c.in_ok-changes.changes.items) (map row_of c.in_ok-begun.begun.items) (map row_of c.in_ok-changed.changed.items) (map row_of c.in_ok-whole.whole.items)
    c.common_front-front.ensures c.first_lines-kept.ensures c.later_lines-old_rest.ensures c.later_lines-new_rest.ensures c.common_back-back.ensures (sym (length-map old_rest string_bytes)) (sym (length-map new_rest string_bytes))
    c.first_lines-removed.ensures c.first_lines-added.ensures c.later_lines-ending.ensures turns begun changed whole
