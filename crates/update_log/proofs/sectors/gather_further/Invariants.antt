use Rattle.std.proofs.Common.{◌≡◌, ◌++◌, ◌*◌, ◌≤◌, length, ◌-◌}
use Rattle.update_log.specs.Sectors.{further_in}
use Rattle.update_log.proofs.sectors.gather_further.Given as goal

abbrev pub invariant-loop : goal.invariant-loop
invariant-loop l = record {
  gathered : l.out.items ++ further_in (l.count - l.counter) l.rest ≡ l.initial.out.items ++ further_in l.count l.fn.bytes;
  room : 512 * (l.count - l.counter) ≤ length l.rest;
}
