use Rattle.std.proofs.Common.{◌≡◌, ◌+◌, ◌-◌, ◌^◌}
use Rattle.segment_table.specs.Room.{log_of}
use Rattle.version_store.specs.Store.{fields_of}
use Rattle.version_store.specs.Tallies.{AreTallies}
use Rattle.version_store.proofs.store.tallying.Store+NamedTable+J.recount.Given as goal

abbrev pub invariant-loop-object : goal.invariant-loop-object
invariant-loop-object g l = record {
  tallies : AreTallies l.fn.self.table (fields_of log_of l.fn.self) (l.last + 1) l.tallies.items;
  same : fields_of log_of l.self ≡ fields_of log_of l.fn.self;
}

abbrev pub decreases-loop-object : goal.decreases-loop-object
decreases-loop-object g l = 2 ^ 64 - l.last
