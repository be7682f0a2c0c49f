use Rattle.std.proofs.Common.{take}
use Rattle.version_store.specs.Store.{sides_of}
use Rattle.version_store.specs.private.Names.{Gives}
use Rattle.version_store.proofs.names.hold_sides.Given as goal

abbrev pub invariant-loop-triple : goal.invariant-loop-triple
invariant-loop-triple g l =
    let log = g.B.Blocks.log in
    Gives (log l.initial.table) (sides_of (take l.triple-index l.triples)) (log l.table)
