use Rattle.std.proofs.Common.{◌-◌, ◌++◌}
use Rattle.s4_types.specs.declared.limits.TheConstants.{CHAIN_BLOCKS}
use Rattle.journal_chain.specs.Chain.{journal_held}
use Rattle.image_objects.specs.private.Places.{places_of_chain}
use Rattle.image_objects.proofs.RowWalk.{IsLeft}
use Rattle.image_objects.proofs.naming.push_chain.Given as goal

abbrev pub invariant-loop : goal.invariant-loop
invariant-loop g l =
    let used = g.U.UsedBlocks.used l.used in
    IsLeft (CHAIN_BLOCKS - l.counter) (journal_held used l.row.object) l.next l.places.items (l.initial.places.items ++ places_of_chain used l.row)
