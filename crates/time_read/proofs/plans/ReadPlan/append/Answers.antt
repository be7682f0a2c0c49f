use Rattle.std.proofs.Common.{◌∙◌, sym, arith}
use Rattle.std.proofs.lemmas.List.{get_or_default}
use Rattle.time_read.specs.Plans.{Hole}
use Rattle.time_read.proofs.plans.ReadPlan.append.Goals as goal

pub append-requires-2-clause-counted : goal.append-requires-2-clause-counted
append-requires-2-clause-counted c frame block is = c.self.invariant.0 c.args.index frame block (sym (get_or_default c.self.inside.pieces.items c.args.index c.index.result.now Hole (omega (arith, c.if-index-len.false, c.len.ensures))) ∙ sym c.index.ensures ∙ is)
