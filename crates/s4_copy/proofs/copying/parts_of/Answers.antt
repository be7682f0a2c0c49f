use Rattle.std.proofs.Common.{refl}
use Rattle.s4_copy.proofs.copying.parts_of.Goals as goal

-- what has no parts is damaged
pub returns-in-Err-clause-refused : goal.returns-in-Err-clause-refused
returns-in-Err-clause-refused c = (c.in-Err.cause, refl, c.in-Err.ensures.damaged)
