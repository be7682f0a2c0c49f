use Rattle.std.proofs.Common.{◌≡◌, length, map, take}
use Rattle.chain_rewriting.specs.Mapping.{mapped_triple}
use Rattle.chain_rewriting.proofs.mapping.map_triples.Given as goal

abbrev pub invariant-loop-triple : goal.invariant-loop-triple
invariant-loop-triple g l = record {
  items : l.mapped.items ≡ map (mapped_triple (g.M.MapsPlaces.to l.by)) (take l.triple-index l.triples);
  count : length l.mapped.items ≡ l.triple-index;
}
