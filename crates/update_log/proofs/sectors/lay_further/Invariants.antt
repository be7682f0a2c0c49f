use Rattle.std.proofs.Common.{◌≡◌, ◌++◌, ◌*◌, length, ◌-◌}
use Rattle.update_log.specs.Sectors.{further}
use Rattle.update_log.proofs.sectors.lay_further.Given as goal

abbrev pub invariant-loop : goal.invariant-loop
invariant-loop l = record {
  laid : l.out.items ++ further (l.count - l.counter) l.rest ≡ l.initial.out.items ++ further l.count l.fn.content;
  room : length l.rest ≡ 511 * (l.count - l.counter);
}
