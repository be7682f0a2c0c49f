use Rattle.std.proofs.Common.{◌≡◌, ◌+◌, ◌-◌, ◌*◌, ◌≤◌, ◌++◌, length}
use Rattle.image_update.specs.Encoding.{count_put, steps_in}
use Rattle.image_update.proofs.reading.read_steps.Given as goal

abbrev pub invariant-loop : goal.invariant-loop
invariant-loop l = record {
  steps : l.steps.items ++ steps_in (l.count - l.counter) l.rest ≡ steps_in l.count l.bytes;
  left : count_put l.steps.items + l.left ≡ l.put;
  room : 24 * (l.count - l.counter) ≤ length l.rest;
}
