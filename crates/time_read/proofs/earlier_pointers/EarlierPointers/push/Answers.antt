use Rattle.std.proofs.Common.{[], ◌∷◌, arith}
use Rattle.time_read.specs.Undoings.{earlier_of}
use Rattle.time_read.proofs.Before.{joined_push}
use Rattle.time_read.proofs.earlier_pointers.EarlierPointers.push.Goals as goal

pub returns-clause-extends : goal.returns-clause-extends
returns-clause-extends c = (earlier_of c.args.triple.now ∷ [], grind (arith, joined_push))
