use Rattle.codec.proofs.Lengths.{entry_is_by}
use Rattle.codec.proofs.laws.entry_is_so_long_by.Goals as goal

pub returns : goal.returns
returns c = entry_is_by
