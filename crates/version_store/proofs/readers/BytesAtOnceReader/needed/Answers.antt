use Rattle.std.proofs.Common.{◌∙◌}
use Rattle.inode.specs.Contents.{contents_of}
use Rattle.version_store.proofs.Needed.{bytes_agree}
use Rattle.version_store.proofs.readers.BytesAtOnceReader.needed.Goals as goal

pub returns-clause-reads : goal.returns-clause-reads
returns-clause-reads g c = λ table read i j small agrees is.
    is ∙ bytes_agree (contents_of (g.B.Blocks.log table).held) c.of_bytes.result i j c.args.self.now.offset c.args.self.now.wanted small c.of_bytes.ensures agrees
