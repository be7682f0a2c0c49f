use Rattle.std.proofs.Common.{◌≡◌}
use Rattle.chain_rewriting.proofs.InPlace.{mapped_before}
use Rattle.chain_rewriting.proofs.mapping.map_entries.Given as goal

abbrev pub invariant-loop-entry : goal.invariant-loop-entry
invariant-loop-entry g l = l.entries ≡ mapped_before (g.M.MapsPlaces.to l.by) l.entry-index l.initial.entries
