use Rattle.std.proofs.Common.{◌∷◌, [], None, ap}
use Rattle.codec.specs.Journal.{JournalFields}
use Rattle.journal_chain.proofs.Calls.{new_is, alone_filled}
use Rattle.journal_chain.proofs.writing.first_block.Goals as goal

pub returns-clause-value : goal.returns-clause-value
returns-clause-value c =
    let made : JournalFields = record { object = c.args.object; previous = None; entries = c.args.first.now ∷ [] } in
    new_is c.new.result c.args.object made c.unwrap.result c.requires c.new.ensures c.unwrap.ensures

pub returns-clause-filled : goal.returns-clause-filled
returns-clause-filled c =
    let made : JournalFields = record { object = c.args.object; previous = None; entries = c.args.first.now ∷ [] } in
    alone_filled c.unwrap.result.entries c.args.first.now
    (ap (λ (j : JournalFields). j.entries) (new_is c.new.result c.args.object made c.unwrap.result c.requires c.new.ensures c.unwrap.ensures))
