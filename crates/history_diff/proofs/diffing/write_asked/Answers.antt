use Rattle.std.proofs.Common.{ℕ, Option, Some, IfOk, sym, subst}
use Rattle.drive.specs.Fields.{DriveFields, state_in}
use Rattle.history_diff.specs.Diffing.{WritesAsked}
use Rattle.history_diff.proofs.diffing.write_asked.Goals as goal

pub returns-in-Some-clause-rows : goal.returns-in-Some-clause-rows
returns-in-Some-clause-rows g c =
    let comparison = c.args.comparison.now in
    let a = g.W.Sink.passed c.args.writer.now in
    let b = g.W.Sink.passed c.write_one.new.writer in
    subst (λ (x : Option ℕ). IfOk c.write_one.result (λ differs. WritesAsked (state_in c.args.drive.now) comparison x differs a b)) (sym c.in-Some.is)
    (subst (λ (d : DriveFields). IfOk c.write_one.result (λ differs. WritesAsked (state_in d) comparison (Some c.in-Some.object) differs a b)) c.session.ensures.same c.write_one.ensures.rows)
