use Rattle.std.proofs.Common.{ap, ◌∙◌}
use Rattle.journal_chain.specs.Chain.{ChainFields}
use Rattle.row_changes.proofs.MovedBlocks.{journal_gone, no_bytes}
use Rattle.version_store.proofs.data_blocks.drop_journal.Goals as goal

pub rewrite-requires-clause-limit : goal.rewrite-requires-clause-limit
rewrite-requires-clause-limit g c = no_bytes

pub returns-clause-gone : goal.returns-clause-gone
returns-clause-gone g c =
    journal_gone (g.B.Blocks.log c.rewrite.new.table).held c.rewrite.new.self c.args.object
    (c.in-Ok.ensures.object ∙ ap (λ (k : ChainFields). k.object) c.of-chain.ensures) c.in-Ok.ensures.holds
