use Rattle.codec.proofs.Patched.{reads_decoded}
use Rattle.codec.proofs.journal_bytes.JournalBytes.of.Goals as goal

pub returns : goal.returns
returns c = reads_decoded c.args.block c.requires
