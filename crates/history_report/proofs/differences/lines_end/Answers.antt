use Rattle.std.proofs.Common.{get_or, inl, inr}
use Rattle.history_report.proofs.Lines.{Moved, line_on, line_over}
use Rattle.history_report.proofs.differences.lines_end.Goals as goal
use Rattle.history_report.proofs.differences.lines_end.Goals.{then-byte-eq10, else-byte-eq10}

pub loop-index-preserved : goal.loop-index-preserved
loop-index-preserved c =
    let bytes = c.args.bytes.now in
    let i = c.loop-index.index in
    let moved : Moved (get_or bytes i 0) c.loop-index.left c.if-byte-eq10.left = elim c.if-byte-eq10.branch [
      | then-byte-eq10 w ↦ inl (w.if-byte-eq10.true, w.left-is)
      | else-byte-eq10 w ↦ inr (w.if-byte-eq10.false, w.left-is)
    ] in
    line_on c.args.lines c.loop-index.left c.if-byte-eq10.left i bytes c.loop-index-test.true c.if-left-eq0.false c.loop-index.invariant moved

pub returns-clause-end : goal.returns-clause-end
returns-clause-end c = line_over c.args.lines c.loop-index.left c.loop-index.index c.args.bytes.now c.loop-index-test.false c.loop-index.auto.index-end c.loop-index.invariant
