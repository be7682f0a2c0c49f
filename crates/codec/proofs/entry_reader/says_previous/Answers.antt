use Rattle.std.proofs.Common.{ap, is_some, arith}
use Rattle.lemmas.proofs.Bytes.{IsBytes}
use Rattle.codec.specs.Fields.{all_of}
use Rattle.codec.specs.Journal.{journal_at_by}
use Rattle.codec.proofs.Starts.{spells, spelled_there, length_there, previous_there}
use Rattle.codec.proofs.entry_reader.says_previous.Goals as goal

pub returns-clause-long : goal.returns-clause-long
returns-clause-long c =
    let bytes : IsBytes c.args.block.now = λ i. omega (arith, c.type_inv.block i) in
    let (j, h) = spelled_there c.args.version c.args.block.now bytes c.requires in
    omega (arith, length_there c.args.version c.args.block.now j h)

pub returns-clause-there : goal.returns-clause-there
returns-clause-there c =
    let bytes : IsBytes c.args.block.now = λ i. omega (arith, c.type_inv.block i) in
    let (j, h) = spelled_there c.args.version c.args.block.now bytes c.requires in
    ap is_some (previous_there c.args.version c.args.block.now j h)

pub returns-clause-previous : goal.returns-clause-previous
returns-clause-previous c = λ j e.
    let bytes : IsBytes c.args.block.now = λ i. omega (arith, c.type_inv.block i) in
    (_, previous_there c.args.version c.args.block.now j (spells c.args.version c.args.block.now j bytes e))
