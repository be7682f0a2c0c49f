use Rattle.std.proofs.Common.{◌≤◌}
use Rattle.s4_types.specs.declared.limits.TheConstants.{RUNS_IN_A_LIST}
use Rattle.image_parts.proofs.SpanRules.{SpansJudged}
use Rattle.image_parts.proofs.span_rules.follow.Given as goal

abbrev pub invariant-loop-span : goal.invariant-loop-span
invariant-loop-span l = record {
  judged : SpansJudged l.header l.parts.spans l.before l.nth l.span-iterator;
  room : l.nth ≤ RUNS_IN_A_LIST;
}
