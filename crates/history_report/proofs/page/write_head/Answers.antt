use Rattle.std.proofs.Common.{◌≡◌, ◌∙◌, subst}
use Rattle.std.specs.Io.KnownBytes.{Appends}
use Rattle.std.proofs.lemmas.Result.{on_ok_weaker}
use Rattle.drive.specs.Fields.{state_in}
use Rattle.history_report.specs.Page.{page_text}
use Rattle.history_report.specs.Report.{head_of}
use Rattle.history_report.proofs.page.write_head.Goals as goal

-- the head's text is long, so a search that looks into it doesn't end
pub returns-clause-head : goal.returns-clause-head
returns-clause-head g c =
    let passed = g.W.Sink.passed in
    let text : c.as_bytes.result.now ≡ page_text (head_of (state_in c.args.drive.now) c.args.from) = c.as_bytes.ensures.value ∙ c.in_ok-text.ensures in
    on_ok_weaker c.write_out.result
    (λ wrote. subst (Appends (passed c.args.writer.now) (passed c.write_out.new.writer)) text wrote)
    c.write_out.ensures.bytes
