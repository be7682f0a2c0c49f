use Rattle.codec.proofs.Lengths.{grown}
use Rattle.codec.proofs.laws.entries_grow_little.Goals as goal

pub returns : goal.returns
returns c = grown
