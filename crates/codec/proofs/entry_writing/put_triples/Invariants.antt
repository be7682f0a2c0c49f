use Rattle.std.proofs.Common.{◌≡◌, ◌++◌, ◌+◌, ◌*◌, length, take}
use Rattle.std.specs.List.{flat_map, AllByRecursion}
use Rattle.s4_types.specs.declared.limits.TheConstants.{TRIPLE_BYTES}
use Rattle.codec.specs.Entry.{IsTriple, triple_spelling_by}
use Rattle.codec.specs.declared.versions.ImageVersion.TheVariants.{Second}
use Rattle.codec.proofs.entry_writing.put_triples.Given as goal

abbrev pub invariant-loop-triple : goal.invariant-loop-triple
invariant-loop-triple l = record {
  items : l.out.items ≡ l.initial.out.items ++ flat_map (triple_spelling_by Second) (take l.triple-index l.triples);
  len : length l.out.items ≡ length l.initial.out.items + TRIPLE_BYTES * l.triple-index;
  range : AllByRecursion IsTriple (take l.triple-index l.triples);
}
