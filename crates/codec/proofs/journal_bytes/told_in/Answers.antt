use Rattle.std.proofs.Common.{◌∙◌, ap}
use Rattle.byteorder.specs.Endian.{big_number}
use Rattle.codec.proofs.Patched.{told_is, rest_is}
use Rattle.codec.proofs.journal_bytes.told_in.Goals as goal

pub returns : goal.returns
returns c = λ j h. c.read_u16.ensures ∙ ap (big_number 2) (rest_is c.args.block.now 2 c.told-block) ∙ told_is c.args.block.now j h
