use Rattle.codec.proofs.Lengths.{fourteen}
use Rattle.codec.proofs.laws.fourteen_entries_fit.Goals as goal

pub returns : goal.returns
returns c = fourteen
