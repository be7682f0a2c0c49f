use Rattle.std.proofs.Common.{◌∙◌}
use Rattle.journal_chain.specs.Back.{left}
use Rattle.version_store.proofs.Checkpointing.{whole_left, last_of, none_last}
use Rattle.version_store.proofs.store.checkpoints.last_entry.Goals as goal

pub of-chain-requires-clause-object : goal.of-chain-requires-clause-object
of-chain-requires-clause-object g c = c.requires.object

pub of-chain-requires-clause-limit : goal.of-chain-requires-clause-limit
of-chain-requires-clause-limit g c = c.a_row_tells_a_chain.ensures.bytes (g.B.Blocks.log c.args.table.now).held c.args.object c.args.row.now c.requires

pub of-chain-requires-clause-one_block : goal.of-chain-requires-clause-one_block
of-chain-requires-clause-one_block g c = c.a_row_tells_a_chain.ensures.newest (g.B.Blocks.log c.args.table.now).held c.args.object c.args.row.now c.requires

pub next-requires : goal.next-requires
next-requires g c =
    let held = (g.B.Blocks.log c.args.table.now).held in
    whole_left held c.args.object c.args.row.now c.of-chain.result c.entries_back-back.result (c.a_row_tells_a_chain.ensures.walk held c.args.object c.args.row.now c.requires) c.of-chain.ensures (c.entries_back-back.ensures held)

pub returns-in-Some-clause-moment : goal.returns-in-Some-clause-moment
returns-in-Some-clause-moment g c =
    let held = (g.B.Blocks.log c.args.table.now).held in
    c.moment.ensures ∙ last_of held c.args.object c.args.row.now c.of-chain.result c.entries_back-back.result (left (g.B.Blocks.log c.next.new.table).held c.next.new.self) c.next.result c.in-Some.entry (c.a_row_tells_a_chain.ensures.walk held c.args.object c.args.row.now c.requires) c.of-chain.ensures (c.entries_back-back.ensures held) c.in-Some.is c.next.ensures.gives

pub returns-in-Some-clause-same : goal.returns-in-Some-clause-same
returns-in-Some-clause-same g c = c.next.ensures.same

pub returns-in-None-clause-moment : goal.returns-in-None-clause-moment
returns-in-None-clause-moment g c =
    let held = (g.B.Blocks.log c.args.table.now).held in
    c.new.ensures ∙ none_last held c.args.object c.args.row.now c.of-chain.result c.entries_back-back.result (left (g.B.Blocks.log c.next.new.table).held c.next.new.self) c.next.result (c.a_row_tells_a_chain.ensures.walk held c.args.object c.args.row.now c.requires) c.of-chain.ensures (c.entries_back-back.ensures held) c.in-None.is c.next.ensures.gives c.next.ensures.end

pub returns-in-None-clause-same : goal.returns-in-None-clause-same
returns-in-None-clause-same g c = c.next.ensures.same
