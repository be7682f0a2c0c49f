use Rattle.std.proofs.Common.{take, map}
use Rattle.chain_rewriting.specs.Renaming.{renamed_slot}
use Rattle.version_store.specs.private.Names.{Gives}
use Rattle.version_store.proofs.names.hold_renamed.Given as goal

abbrev pub invariant-loop-pointer : goal.invariant-loop-pointer
invariant-loop-pointer g l =
    let log = g.B.Blocks.log in
    Gives (log l.initial.table) (map (renamed_slot l.renaming) (take l.pointer-index l.pointers)) (log l.table)
