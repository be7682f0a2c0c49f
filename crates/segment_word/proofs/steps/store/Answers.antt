use Rattle.std.proofs.Common.{rules, arith, refl, ap}
use Rattle.segment_word.proofs.Storing.{stores}
use Rattle.segment_word.proofs.steps.store.Goals as goal

pub store-requires : goal.store-requires
store-requires c = (search rules, omega arith, stores _ _ _ _ _ _ c.requires.drive c.requires.inside.0 c.requires.inside.1 c.requires.phase)

pub returns-clause-seat : goal.returns-clause-seat
returns-clause-seat c = let t = c.store.ensures.2 c.args.frame c.args.index c.requires.inside.0 c.requires.inside.1 refl in (c.store.ensures.0, c.store.ensures.1, ap (λ me. me.1) t.0)

pub returns-clause-whole : goal.returns-clause-whole
returns-clause-whole c = (c.store.ensures.2 c.args.frame c.args.index c.requires.inside.0 c.requires.inside.1 refl).1
