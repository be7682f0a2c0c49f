use Rattle.inode.proofs.Placing.{placed-at}
use Rattle.inode.proofs.writes.place.Goals as goal

pub returns-clause-bytes : goal.returns-clause-bytes
returns-clause-bytes c = λ n lt.
    placed-at c.args.block.now c.args.bytes.now c.copy_from_slice.new.self c.args.index c.args.offset c.saturating_sub-from.result c.min-to.result c.saturating_sub-first.result n
    c.told-block c.saturating_sub-from.ensures c.min-to.ensures c.saturating_sub-first.ensures c.copy_from_slice.ensures.after c.requires.low c.requires.high lt
