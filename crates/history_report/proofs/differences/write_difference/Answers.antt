use Rattle.std.proofs.Common.{◌≡◌, ◌∙◌, ℕ, List, ap, subst}
use Rattle.std.specs.Io.KnownBytes.{Appends}
use Rattle.std.proofs.lemmas.Result.{on_ok_weaker}
use Rattle.history_diff.specs.Diffing.{row_of}
use Rattle.history_report.specs.Page.{page_text}
use Rattle.history_report.specs.Differences.{difference_by, difference_of}
use Rattle.history_report.specs.private.Writing.{shown_by}
use Rattle.history_report.proofs.differences.write_difference.Goals as goal

pub returns-clause-lines : goal.returns-clause-lines
returns-clause-lines g c =
    let passed = g.W.Sink.passed in
    let lines = c.in-Ok.ensures in
    let text : c.as_bytes.result.now ≡ page_text (difference_of (shown_by (row_of c.args.found.now) lines.detail)) =
    c.as_bytes.ensures.value ∙ c.in_ok-text.ensures ∙ ap (λ (l : List ℕ). page_text (difference_by c.args.found.now.object l)) (c.as_slice.ensures ∙ lines.are) in
    on_ok_weaker c.write_out.result
    (λ wrote. record { detail = lines.detail; shown = lines.shown; wrote = subst (Appends (passed c.args.writer.now) (passed c.write_out.new.writer)) text wrote })
    c.write_out.ensures.bytes
