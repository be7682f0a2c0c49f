use Rattle.std.proofs.Common.{◌≡◌, ◌+◌, ◌≤◌, ◌++◌, length, map, Some, IsSome}
use Rattle.s4_types.specs.declared.limits.TheConstants.{CHAIN_BLOCKS}
use Rattle.journal_chain.specs.Back.{links_back, places_back}
use Rattle.journal_chain.proofs.rewriting.places.Given as goal

abbrev pub invariant-loop-next : goal.invariant-loop-next
invariant-loop-next g l = record {
  places : l.places.items ++ map Some (places_back (g.B.Blocks.log l.table).held l.next) ≡ map Some (places_back (g.B.Blocks.log l.fn.table).held l.fn.head);
  there : IsSome (links_back (g.B.Blocks.log l.table).held l.next);
  few : length l.places.items + length (places_back (g.B.Blocks.log l.table).held l.next) ≤ CHAIN_BLOCKS;
  same : g.B.Blocks.log l.table ≡ g.B.Blocks.log l.fn.table;
}

abbrev pub decreases-loop-next : goal.decreases-loop-next
decreases-loop-next g l = length (places_back (g.B.Blocks.log l.table).held l.next)
