use Rattle.inode.proofs.Frames.{meaning-same, tidy-same}
use Rattle.inode.proofs.laws.only_its_blocks_matter.Goals as goal

pub returns : goal.returns
returns c = λ contents others i agree. (meaning-same contents others i agree, tidy-same contents others i agree)
