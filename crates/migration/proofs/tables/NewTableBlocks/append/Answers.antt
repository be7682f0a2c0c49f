use Rattle.block_log.proofs.Taking.{append_takes}
use Rattle.migration.proofs.Filled.{filled_more}
use Rattle.migration.proofs.tables.NewTableBlocks.append.Goals as goal

pub invariant_of-self : goal.invariant_of-self
invariant_of-self c =
    filled_more c.append.result c.self.inside.table c.append.new.self (record { kind = c.args.kind; object = c.args.object }) c.args.block.now (record { kind = c.args.kind; object = c.args.object; bytes = c.args.block.now })
    (append_takes _ _ _) c.append.ensures.appended c.append.ensures.exact c.append.ensures.unchanged c.self.invariant
