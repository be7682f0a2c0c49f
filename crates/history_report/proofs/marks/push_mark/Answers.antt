use Rattle.std.proofs.Common.{rules, ◌≡◌, ◌++◌, ◌∙◌, List, ℕ, OnOk, string_bytes, sym, ap, subst}
use Rattle.history_report.specs.Page.{page_text}
use Rattle.history_report.specs.Timeline.{change_marks, mark_of}
use Rattle.history_report.proofs.OwnMarks.{own_mark}
use Rattle.history_report.proofs.marks.push_mark.Goals as goal

pub returns : goal.returns
returns c =
    let change = c.args.change.now in
    let own = mark_of c.args.scale.now c.args.object change in
    let mark : c.as_str.result.now ≡ page_text (change_marks c.args.scale.now c.args.object change) =
    c.as_str.ensures.value ∙ c.in_ok-mark.ensures ∙ ap page_text (sym (own_mark change.kind own c.in_default.not-Continued)) in
    let grown : OnOk c.push_str.result (string_bytes c.push_str.new.self ≡ string_bytes c.args.text.now ++ c.as_str.result.now) = search rules in
    subst (λ (l : List ℕ). OnOk c.push_str.result (string_bytes c.push_str.new.self ≡ string_bytes c.args.text.now ++ l)) mark grown
