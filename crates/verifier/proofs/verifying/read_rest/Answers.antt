use Rattle.std.proofs.Common.{refl, inl, inr}
use Rattle.s4_types.specs.declared.refusals.Cause.TheVariants.{Frame, Span, Row}
use Rattle.verifier.proofs.verifying.read_rest.Goals as goal

pub returns-in_default-clause-damaged : goal.returns-in_default-clause-damaged
returns-in_default-clause-damaged c = inr (Frame, refl, inl (rw c.in_default.is at c.in_ok-table.ensures.none, refl))

pub returns-then-not-spans_keep_rules-clause-damaged : goal.returns-then-not-spans_keep_rules-clause-damaged
returns-then-not-spans_keep_rules-clause-damaged c =
    inr (Span, refl, inr (rw c.in-Some.is at c.in_ok-table.ensures.rules, inl (rw c.if-not-spans_keep_rules.true at c.spans_keep_rules.ensures, refl)))

pub returns-then-not-rows_keep_rules-clause-damaged : goal.returns-then-not-rows_keep_rules-clause-damaged
returns-then-not-rows_keep_rules-clause-damaged c =
    inr (Row, refl, inr (rw c.in-Some.is at c.in_ok-table.ensures.rules, inr (rw c.if-not-spans_keep_rules.false at c.spans_keep_rules.ensures, inl (rw c.if-not-rows_keep_rules.true at c.rows_keep_rules.ensures, refl))))
