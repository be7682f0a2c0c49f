use Rattle.std.proofs.Common.{◌≡◌, Option, subst}
use Rattle.std.specs.Prelude.{IfSome}
use Rattle.drive.specs.Fields.{state_in}
use Rattle.history_diff.specs.declared.differing.DifferingObject.{DifferingObject}
use Rattle.history_diff.specs.Diffing.{IsDifferenceAt, row_of}
use Rattle.history_diff.proofs.Rows.{one_written}
use Rattle.history_diff.proofs.diffing.write_one.Goals as goal

pub returns-clause-rows : goal.returns-clause-rows
returns-clause-rows g c =
    let passed = g.W.Sink.passed in
    let s = state_in c.args.drive.now in
    let comparison = c.args.comparison.now in
    let o = c.args.object in
    let found = c.in-Some.found in
    let here : (found.object ≡ o) × IsDifferenceAt s comparison.before comparison.after (row_of found) =
    subst (λ (x : Option DifferingObject). IfSome x (λ d. (d.object ≡ o) × IsDifferenceAt s comparison.before comparison.after (row_of d))) c.in-Some.is c.in_ok-found.ensures.some in
    one_written s comparison o (row_of found) (passed c.args.writer.now) (passed c.write_lines.new.writer) here.0 here.1 c.in_ok-write_lines.ensures.lines
