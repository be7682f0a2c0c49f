use Rattle.std.proofs.Common.{sym, ◌∙◌}
use Rattle.journal_chain.specs.Push.{whole_blocks}
use Rattle.row_changes.proofs.MovedBlocks.{journal_among}
use Rattle.row_changes.proofs.writing.write_chain.Goals as goal

pub returns-clause-places : goal.returns-clause-places
returns-clause-places g c =
    let log = g.B.Blocks.log in
    journal_among (whole_blocks c.args.entries.now) (log c.args.table.now) (log c.drop_chain.new.table) (log c.write_whole.new.table) c.args.object c.drop_chain.ensures.takes c.write_whole.ensures.others
    c.drop_chain.ensures.gone c.write_whole.ensures.takes

pub returns-clause-order : goal.returns-clause-order
returns-clause-order g c = sym c.drop_chain.ensures.takes.ahead ∙ c.write_whole.ensures.order
