use Rattle.std.proofs.Common.{rules, ◌≡◌, ◌++◌, string_bytes}
use Rattle.history_report.specs.Page.{page_text}
use Rattle.history_report.specs.Timeline.{run_mark}
use Rattle.history_report.proofs.Pages.{text_took}
use Rattle.history_report.proofs.marks.push_runs.Goals as goal

pub loop-run-preserved : goal.loop-run-preserved
loop-run-preserved c =
    let grown : string_bytes c.push_str.new.self ≡ string_bytes c.loop-run.text ++ page_text (run_mark c.args.scale.now c.args.object c.run-item.result) = search rules in
    text_took (run_mark c.args.scale.now c.args.object) c.args.runs.now c.loop-run.run-index c.run-item.result (string_bytes c.args.text.now) (string_bytes c.loop-run.text) (string_bytes c.push_str.new.self) c.loop-run-test.true c.run-item.is c.loop-run.invariant grown
