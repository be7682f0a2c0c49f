use Rattle.std.proofs.Common.{◌≡◌, ◌<◌, ◌+◌, ◌^◌, All, length}
use Rattle.server_tests.proofs.tests.held.readers.Given as goal

-- the clients so far
abbrev pub invariant-loop : goal.invariant-loop
invariant-loop g l = record {
  count : length l.clients.items ≡ l.counter;
  readers : All (λ c. c.reader.failures + 1 < 2 ^ 64) l.clients.items;
  writers : All (λ c. c.writer.failures + 1 < 2 ^ 64) l.clients.items;
}
