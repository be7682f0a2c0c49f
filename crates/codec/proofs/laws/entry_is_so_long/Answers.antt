use Rattle.codec.proofs.Lengths.{entry_is, entry_least, entry_most}
use Rattle.codec.proofs.laws.entry_is_so_long.Goals as goal

pub returns : goal.returns
returns c = record { exact = entry_is; least = entry_least; most = entry_most }
