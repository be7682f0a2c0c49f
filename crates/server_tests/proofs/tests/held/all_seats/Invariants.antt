use Rattle.std.proofs.Common.{◌≡◌, ◌+◌}
use Rattle.server_tests.proofs.tests.held.all_seats.Given as goal

-- each session so far has one part
abbrev pub invariant-loop-number : goal.invariant-loop-number
invariant-loop-number g l = l.rest.parts + l.number ≡ l.fn.rest.parts
