use Rattle.std.proofs.Common.{Option, sym, subst}
use Rattle.std.specs.Prelude.{IfSome}
use Rattle.s4_types.specs.Pointer.{Place, IsPlace}
use Rattle.history_cleaner.proofs.places.leads_to_a_place.Goals as goal

pub returns-in_default : goal.returns-in_default
returns-in_default c = subst (λ (q : Option Place). IfSome q IsPlace) (sym c.in_default.is) tt

pub returns : goal.returns
returns c = subst (λ (q : Option Place). IfSome q IsPlace) (sym c.in-Some.is) c.block-block.ensures.range
