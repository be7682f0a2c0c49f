use Rattle.std.proofs.Common.{rules, ◌≡◌, ◌∙◌, ◌++◌, [], ◌∷◌, map, string_bytes, ap, sym, append_assoc, arith}
use Rattle.std.proofs.lemmas.List.{map_push}
use Rattle.std.proofs.lemmas.Str.Pattern.{split_parts}
use Rattle.line_diff.specs.Lines.{lines_of, last_line}
use Rattle.line_diff.proofs.Splitting.{first_line, only_line}
use Rattle.line_diff.proofs.lines.lines_of.Goals as goal

pub loop-line-preserved : goal.loop-line-preserved
loop-line-preserved c =
    let l = c.loop-line in
    let line = c.in-Some.line.now in
    let after = c.in-Some.after.now in
    let cut = rw c.in-Some.is at (split_parts 10 l.rest.now c.split_once.result c.split_once.ensures.cases (omega arith)) in
    let first : lines_of l.rest.now ≡ (line ++ 10 ∷ []) ∷ lines_of after = ap lines_of cut.0 ∙ first_line line after cut.1 in
    let pushed : map string_bytes c.push.new.self.items ≡ map string_bytes l.lines.items ++ (line ++ 10 ∷ []) ∷ [] = search (rules, map_push) in
    (search rules, ap (λ x. x ++ lines_of after) pushed ∙ append_assoc (map string_bytes l.lines.items) ((line ++ 10 ∷ []) ∷ []) (lines_of after) ∙ ap (λ x. map string_bytes l.lines.items ++ x) (sym first) ∙ l.invariant.1)

pub returns : goal.returns
returns c =
    let l = c.loop-line in
    let none = rw c.in_default.is at (split_parts 10 l.rest.now c.split_once.result c.split_once.ensures.cases (omega arith)) in
    let pushed : map string_bytes c.push_last.new.lines.items ≡ map string_bytes l.lines.items ++ last_line l.rest.now = search rules in
    pushed ∙ ap (λ x. map string_bytes l.lines.items ++ x) (sym (only_line l.rest.now none)) ∙ l.invariant.1
