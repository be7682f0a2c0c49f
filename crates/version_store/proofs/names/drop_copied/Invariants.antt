use Rattle.std.proofs.Common.{take}
use Rattle.version_store.specs.private.Names.{TakesAway, places_copied}
use Rattle.version_store.proofs.names.drop_copied.Given as goal

abbrev pub invariant-loop-copy : goal.invariant-loop-copy
invariant-loop-copy g l =
    let log = g.B.Blocks.log in
    TakesAway (log l.initial.table) (places_copied (take l.copy-index l.copies)) (log l.table)
