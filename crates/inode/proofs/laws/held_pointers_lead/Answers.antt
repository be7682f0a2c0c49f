use Rattle.inode.proofs.Frames.{lead}
use Rattle.inode.proofs.laws.held_pointers_lead.Goals as goal

pub returns : goal.returns
returns c = lead
