use Rattle.std.proofs.Common.{string_bytes}
use Rattle.history_report.specs.Timeline.{change_marks}
use Rattle.history_report.proofs.Pages.{text_took}
use Rattle.history_report.proofs.marks.push_marks.Goals as goal

pub loop-change-preserved : goal.loop-change-preserved
loop-change-preserved c =
    text_took (change_marks c.args.scale.now c.args.object) c.args.changes.now c.loop-change.change-index c.change-item.result (string_bytes c.args.text.now) (string_bytes c.loop-change.text) (string_bytes c.push_mark.new.text) c.loop-change-test.true c.change-item.is c.loop-change.invariant
    c.in_ok-push_mark.ensures
