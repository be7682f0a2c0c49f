use Rattle.std.proofs.Common.{◌≡◌}
use Rattle.version_store.specs.Opening.{rows_opened}
use Rattle.version_store.specs.private.Opening.{presents_opened}
use Rattle.version_store.proofs.opened.map_of.Given as goal

abbrev pub invariant-loop-opened : goal.invariant-loop-opened
invariant-loop-opened l = record {
  rows : l.map.rows ≡ rows_opened l.yielded;
  values : l.map.values ≡ presents_opened l.yielded;
}
