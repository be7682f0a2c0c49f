use Rattle.std.proofs.Common.{◌≡◌, ◌++◌, drop}
use Rattle.version_store.specs.Store.{sides_told}
use Rattle.version_store.specs.private.Names.{Gives}
use Rattle.version_store.proofs.names.hold_between.Given as goal

abbrev pub invariant-loop-entry : goal.invariant-loop-entry
invariant-loop-entry g l = record {
  given : Gives (g.B.Blocks.log l.initial.table) (sides_told l.yielded) (g.B.Blocks.log l.table);
  whole : drop 1 l.entries ≡ l.yielded ++ l.entry-iterator;
}
