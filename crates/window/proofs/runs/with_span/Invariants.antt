use Rattle.std.proofs.Common.{◌≡◌, ◌++◌, drop}
use Rattle.window.specs.Runs.{with_span}
use Rattle.window.proofs.Ordering.{NoneBefore}
use Rattle.window.proofs.runs.with_span.Given as goal

abbrev pub invariant-loop-i : goal.invariant-loop-i
invariant-loop-i l = record {
  all : l.all.items ++ with_span l.span (drop l.i l.behind) ≡ with_span l.initial.span l.fn.runs;
  none : NoneBefore l.span (drop l.i l.behind);
}
