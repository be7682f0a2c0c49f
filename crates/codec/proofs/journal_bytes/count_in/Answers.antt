use Rattle.codec.proofs.Patched.{count_is}
use Rattle.codec.proofs.journal_bytes.count_in.Goals as goal

pub returns : goal.returns
returns c = count_is c.args.block.now
