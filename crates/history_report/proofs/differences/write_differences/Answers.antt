use Rattle.std.proofs.Common.{◌∙◌, ◌+◌, ◌^◌, ◌<◌, ℕ, Option, false, refl, sym, ap, subst}
use Rattle.std.specs.Prelude.{IfNone, IfSome}
use Rattle.s4_model.specs.State.{State}
use Rattle.drive.specs.Fields.{state_in, store_of}
use Rattle.history_diff.specs.declared.differing.DifferingObject.{DifferingObject}
use Rattle.history_diff.specs.Diffing.{IsDifferenceNext, IsPassed, row_of}
use Rattle.history_report.proofs.Differing.{DiffersTo, none_differs, differs_on, all_differ}
use Rattle.history_report.proofs.differences.write_differences.Goals as goal

pub loop-session-init : goal.loop-session-init
loop-session-init g c =
    let out = g.W.Sink.passed c.args.writer.now in
    let s = state_in c.args.drive.now in
    record {
      failures = refl;
      state = ap state_in c.session.ensures.same;
      store = ap store_of c.session.ensures.same;
      differences = subst (λ (o : ℕ). DiffersTo s c.args.from c.args.until o false out out) (sym c.new-last.ensures) (none_differs s c.args.from c.args.until out);
    }

pub write_difference-requires : goal.write_difference-requires
write_difference-requires g c = record { writer = subst (λ n. n + 1 < 2 ^ 64) (sym c.loop-session.invariant.failures) c.requires.writer }

pub loop-session-preserved : goal.loop-session-preserved
loop-session-preserved g c =
    let passed = g.W.Sink.passed in
    let s = state_in c.args.drive.now in
    let from = c.args.from in
    let until = c.args.until in
    let before = c.loop-session.invariant in
    let last = c.loop-session.last in
    let found = c.in-Some.found in
    let here : IsDifferenceNext (state_in c.loop-session.drive) from until last (row_of found) =
    subst (λ (x : Option DifferingObject). IfSome x (λ d. IsDifferenceNext (state_in c.loop-session.drive) from until last (row_of d))) c.in-Some.is c.in_ok-found.ensures.some in
    record {
      failures = c.in_ok-write_difference.ensures.failures ∙ before.failures;
      state = c.next_differing.ensures.state ∙ before.state;
      store = c.next_differing.ensures.store ∙ before.store;
      differences = differs_on s from until last c.loop-session.differs (row_of found) (passed c.args.writer.now) (passed c.loop-session.writer) (passed c.write_difference.new.writer) before.differences
          (subst (λ (x : State). IsDifferenceNext x from until last (row_of found)) before.state here) c.in_ok-write_difference.ensures.lines;
    }

pub returns-clause-rows : goal.returns-clause-rows
returns-clause-rows g c =
    let passed = g.W.Sink.passed in
    let from = c.args.from in
    let until = c.args.until in
    let before = c.loop-session.invariant in
    let last = c.loop-session.last in
    let none : (o : ℕ) → last < o → IsPassed (state_in c.loop-session.drive) from until o =
    subst (λ (x : Option DifferingObject). IfNone x ((o : ℕ) → last < o → IsPassed (state_in c.loop-session.drive) from until o)) c.in_default.is c.in_ok-found.ensures.none in
    all_differ (state_in c.args.drive.now) from until last c.loop-session.differs (passed c.args.writer.now) (passed c.loop-session.writer) before.differences
    (subst (λ (x : State). (o : ℕ) → last < o → IsPassed x from until o) before.state none)
