use Rattle.std.proofs.Common.{subst, flat_map}
use Rattle.std.specs.Io.KnownBytes.{Appends}
use Rattle.std.proofs.lemmas.Result.{on_ok_weaker}
use Rattle.drive.specs.Fields.{state_in, store_of}
use Rattle.history_report.specs.declared.scale.Scale.{Scale}
use Rattle.history_report.specs.Page.{page_text}
use Rattle.history_report.specs.Timeline.{scale_of, strip_of}
use Rattle.history_report.specs.Report.{head_of}
use Rattle.history_report.proofs.Pages.{appends_two}
use Rattle.history_report.proofs.page.write_timeline.Goals as goal

pub returns-clause-timeline : goal.returns-clause-timeline
returns-clause-timeline g c =
    let passed = g.W.Sink.passed in
    let s = state_in c.args.drive.now in
    let store = store_of c.args.drive.now in
    let runs = c.args.runs.now in
    let x = passed c.args.writer.now in
    let y = passed c.write_head.new.writer in
    let z = passed c.write_strips.new.writer in
    on_ok_weaker c.write_strips.result
    (λ done. record {
      objects = done.objects;
      have_rows = done.have_rows;
      wrote = appends_two x y z (head_of s c.args.from) (flat_map (strip_of (scale_of s) s store runs) done.objects) c.in_ok-write_head.ensures.head
          (subst (λ (scale : Scale). Appends y z (page_text (flat_map (strip_of scale s store runs) done.objects))) c.scale_of-scale.ensures done.wrote);
    })
    c.write_strips.ensures.strips
