use Rattle.std.proofs.Common.{rules, ◌≡◌, ◌∙◌, ◌++◌, ℕ, List, ap, sym, string_bytes, flat_map}
use Rattle.history_report.specs.Page.{page_text}
use Rattle.history_report.specs.Timeline.{change_marks, run_marks, strip_end, strip_head}
use Rattle.history_report.proofs.Pages.{page_five}
use Rattle.history_report.proofs.strips.strip_by.Goals as goal

pub returns : goal.returns
returns c =
    let scale = c.args.scale.now in
    let runs = c.args.runs.now in
    let o = c.args.object in
    let marks = flat_map (change_marks scale o) c.args.changes.now in
    let first : string_bytes c.push_runs.new.text ≡ string_bytes c.in_ok-text.text ++ page_text (run_marks scale o runs 0) = search rules in
    let second : string_bytes c.push_runs-2.new.text ≡ string_bytes c.push_runs.new.text ++ page_text (run_marks scale o runs o) = search rules in
    let third : string_bytes c.push_marks.new.text ≡ string_bytes c.push_runs-2.new.text ++ page_text marks = search rules in
    let last : string_bytes c.push_str.new.self ≡ string_bytes c.push_marks.new.text ++ page_text strip_end = search rules in
    last
    ∙ ap (λ (x : List ℕ). x ++ page_text strip_end)
    (third ∙ ap (λ (x : List ℕ). x ++ page_text marks) (second ∙ ap (λ (x : List ℕ). x ++ page_text (run_marks scale o runs o)) (first ∙ ap (λ (x : List ℕ). x ++ page_text (run_marks scale o runs 0)) c.in_ok-text.ensures)))
    ∙ sym (page_five (strip_head o) (run_marks scale o runs 0) (run_marks scale o runs o) marks strip_end)
