use Rattle.std.proofs.Common.{◌∙◌, ◌+◌, ◌^◌, ◌<◌, ℕ, Option, false, refl, sym, subst}
use Rattle.std.specs.Prelude.{IfNone, IfSome}
use Rattle.s4_model.specs.State.{State}
use Rattle.drive.specs.Fields.{state_in}
use Rattle.history_diff.specs.declared.differing.DifferingObject.{DifferingObject}
use Rattle.history_diff.specs.Diffing.{IsDifferenceNext, IsPassed, row_of}
use Rattle.history_diff.proofs.Rows.{WrittenTo, none_written, written_on, all_written}
use Rattle.history_diff.proofs.diffing.write_all.Goals as goal

pub loop-found-init : goal.loop-found-init
loop-found-init g c =
    let passed = g.W.Sink.passed in
    let s = state_in c.args.drive.now in
    record {
      failures = c.requires.writer;
      state = refl;
      store = refl;
      written = subst (λ (o : ℕ). WrittenTo s c.args.comparison.now o false (passed c.args.writer.now) (passed c.args.writer.now)) (sym c.new-last.ensures) (none_written s c.args.comparison.now (passed c.args.writer.now));
    }

pub loop-found-preserved : goal.loop-found-preserved
loop-found-preserved g c =
    let passed = g.W.Sink.passed in
    let s = state_in c.args.drive.now in
    let comparison = c.args.comparison.now in
    let before = c.loop-found.invariant in
    let last = c.loop-found.last in
    let found = c.in-Some.found in
    let here : IsDifferenceNext (state_in c.loop-found.drive) comparison.before comparison.after last (row_of found) =
    subst (λ (x : Option DifferingObject). IfSome x (λ d. IsDifferenceNext (state_in c.loop-found.drive) comparison.before comparison.after last (row_of d))) c.in-Some.is c.in_ok-found.ensures.some in
    record {
      failures = subst (λ n. n + 1 < 2 ^ 64) (sym c.in_ok-write_lines.ensures.failures) before.failures;
      state = c.next_differing.ensures.state ∙ before.state;
      store = c.next_differing.ensures.store ∙ before.store;
      written = written_on s comparison last c.loop-found.differs (row_of found) (passed c.args.writer.now) (passed c.loop-found.writer) (passed c.write_lines.new.writer) before.written
          (subst (λ (x : State). IsDifferenceNext x comparison.before comparison.after last (row_of found)) before.state here) c.in_ok-write_lines.ensures.lines;
    }

pub returns-clause-rows : goal.returns-clause-rows
returns-clause-rows g c =
    let passed = g.W.Sink.passed in
    let comparison = c.args.comparison.now in
    let before = c.loop-found.invariant in
    let last = c.loop-found.last in
    let none : (o : ℕ) → last < o → IsPassed (state_in c.loop-found.drive) comparison.before comparison.after o =
    subst (λ (x : Option DifferingObject). IfNone x ((o : ℕ) → last < o → IsPassed (state_in c.loop-found.drive) comparison.before comparison.after o)) c.in_default.is c.in_ok-found.ensures.none in
    all_written (state_in c.args.drive.now) comparison last c.loop-found.differs (passed c.args.writer.now) (passed c.loop-found.writer) before.written
    (subst (λ (x : State). (o : ℕ) → last < o → IsPassed x comparison.before comparison.after o) before.state none)
