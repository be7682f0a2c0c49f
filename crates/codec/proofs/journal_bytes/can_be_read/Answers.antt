use Rattle.std.proofs.Common.{arith}
use Rattle.lemmas.proofs.Bytes.{IsBytes}
use Rattle.codec.proofs.Patched.{spells_decoded}
use Rattle.codec.proofs.journal_bytes.can_be_read.Goals as goal

pub returns : goal.returns
returns c =
    let bytes : IsBytes c.args.block.now = λ i. omega (arith, c.type_inv.block i) in
    spells_decoded c.args.block.now bytes c.requires
