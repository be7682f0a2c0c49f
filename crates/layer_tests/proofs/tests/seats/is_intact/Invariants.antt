use Rattle.std.proofs.Common.{◌≡◌}
use Rattle.layer_tests.proofs.tests.seats.is_intact.Given as goal

abbrev pub invariant-loop-block : goal.invariant-loop-block
invariant-loop-block l = l.pin ≡ l.initial.pin

abbrev pub invariant-loop : goal.invariant-loop
invariant-loop l = l.pin ≡ l.initial.pin
