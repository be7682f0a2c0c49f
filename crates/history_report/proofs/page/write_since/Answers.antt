use Rattle.std.proofs.Common.{rules, ◌++◌, ℕ, Bool, subst, flat_map}
use Rattle.std.specs.Io.KnownBytes.{Appends}
use Rattle.std.proofs.KnownBytes.{Appends-trans}
use Rattle.std.proofs.lemmas.Result.{on_ok_weaker}
use Rattle.drive.specs.Fields.{state_in}
use Rattle.history_report.specs.declared.texts.TheConstants.{DIFFERENCES_HEAD}
use Rattle.history_report.specs.Page.{page_text}
use Rattle.history_diff.specs.Diffing.{has_any}
use Rattle.history_report.specs.Differences.{AreShownFrom, difference_of}
use Rattle.history_report.specs.Report.{end_of}
use Rattle.history_report.proofs.Pages.{appends_two}
use Rattle.history_report.proofs.page.write_since.Goals as goal

pub returns-clause-since : goal.returns-clause-since
returns-clause-since g c =
    let passed = g.W.Sink.passed in
    let s = state_in c.args.drive.now in
    let w = passed c.args.writer.now in
    let x = passed c.write_out.new.writer in
    let y = passed c.write_differences.new.writer in
    let z = passed c.write_end.new.writer in
    let rows = c.in_ok-differs.ensures.rows in
    let head : Appends w x DIFFERENCES_HEAD.now = search rules in
    on_ok_weaker c.write_end.result
    (λ wrote. let end : Appends y z (page_text (end_of (has_any rows.differences))) = subst (λ (b : Bool). Appends y z (page_text (end_of b))) rows.answer wrote in
    record {
      differences = rows.differences;
      are = subst (λ (t : ℕ). AreShownFrom s c.args.from t 0 rows.differences) c.clock-until.ensures rows.are;
      wrote = Appends-trans w x z DIFFERENCES_HEAD.now (page_text (flat_map difference_of rows.differences ++ end_of (has_any rows.differences))) head
          (appends_two x y z (flat_map difference_of rows.differences) (end_of (has_any rows.differences)) rows.wrote end);
    })
    c.write_end.ensures
