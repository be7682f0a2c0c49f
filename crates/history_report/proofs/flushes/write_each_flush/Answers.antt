use Rattle.std.proofs.Common.{◌≡◌, ◌∙◌, refl, subst}
use Rattle.std.specs.Io.KnownBytes.{Appends}
use Rattle.std.proofs.KnownBytes.{Appends-nil}
use Rattle.history_report.specs.Flushes.{flush_parts}
use Rattle.history_report.specs.Page.{page_text}
use Rattle.history_report.proofs.Pages.{appends_taken}
use Rattle.history_report.proofs.flushes.write_each_flush.Goals as goal

pub loop-row-init : goal.loop-row-init
loop-row-init g c = record { failures = refl; wrote = Appends-nil (g.W.Sink.passed c.args.writer.now) }

pub loop-row-preserved : goal.loop-row-preserved
loop-row-preserved g c =
    let passed = g.W.Sink.passed in
    let before = c.loop-row.invariant in
    let a = passed c.loop-row.writer in
    let b = passed c.write_out.new.writer in
    let text : c.as_bytes.result.now ≡ page_text (flush_parts c.args.style c.row-item.result) = c.as_bytes.ensures.value ∙ c.in_ok-text.ensures in
    record {
      failures = c.in_ok-write_out.ensures.failures ∙ before.failures;
      wrote = appends_taken (flush_parts c.args.style) c.args.flushes.now c.loop-row.row-index c.row-item.result (passed c.args.writer.now) a b c.loop-row-test.true c.row-item.is before.wrote
          (subst (Appends a b) text c.in_ok-write_out.ensures.bytes);
    }
