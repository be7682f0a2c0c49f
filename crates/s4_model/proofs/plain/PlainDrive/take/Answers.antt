use Rattle.std.proofs.Common.{◌+◌, [], ◌∷◌, ◌++◌, ap, ◌∙◌, arith}
use Rattle.s4_types.specs.declared.changes.Accepted.{Accepted}
use Rattle.s4_model.proofs.PlainLemmas.{AllKept-took}
use Rattle.s4_model.proofs.plain.PlainDrive.take.Goals as goal

pub invariant_of-self-2 : goal.invariant_of-self-2
invariant_of-self-2 c =
    let a : Accepted = record { number = c.len.result + 1; moment = c.new-moment.result; change = c.args.change } in
    AllKept-took c.self.inside.clock c.new-moment.result c.self.inside.changes.items c.push_reserved.new.self.items a
    (c.push_reserved.ensures.items ∙ ap (λ all. all ++ a ∷ []) c.reserve.ensures.items)
    (omega arith) (omega arith) c.requires.fits (rw (← c.self.view_is) at c.requires.ends) c.self.invariant
