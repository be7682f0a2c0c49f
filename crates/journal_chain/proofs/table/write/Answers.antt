use Rattle.journal_chain.proofs.Calls.{put_since}
use Rattle.journal_chain.proofs.table.write.Goals as goal

pub returns : goal.returns
returns g c =
    put_since (g.B.Blocks.log c.args.table.now) (g.B.Blocks.log c.append.new.self) c.append.result c.unwrap.result c.args.block.now c.object.result c.as_bytes.result.now
    g.met.B.Blocks.an_append_takes_one_place c.unwrap.ensures c.append.ensures.appended c.append.ensures.fresh c.object.ensures c.as_bytes.ensures.spells.1 c.as_bytes.ensures.reads
