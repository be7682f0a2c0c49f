use Rattle.std.proofs.Common.{◌++◌, ◌∙◌, ap, map, subst, sym, List, Option, Some, IsSome}
use Rattle.s4_types.specs.Pointer.{Place}
use Rattle.journal_chain.specs.Back.{links_back, places_back}
use Rattle.journal_chain.proofs.Backwards.{chain_goes_back}
use Rattle.journal_chain.proofs.chain.Chain.add_places.Goals as goal

pub places-places-requires : goal.places-places-requires
places-places-requires g c =
    let held = (g.B.Blocks.log c.args.table.now).held in
    subst (λ (head : Option Place). IsSome (links_back held head)) (sym c.head.ensures) (chain_goes_back held c.args.self.now.object c.args.self.now.head c.requires).0

pub returns-clause-added : goal.returns-clause-added
returns-clause-added g c =
    let held = (g.B.Blocks.log c.args.table.now).held in
    c.in_ok-extend_from_slice.ensures.items
    ∙ ap (λ (l : List (Option Place)). c.args.into.now.items ++ l)
    (c.as_slice.ensures.value ∙ c.places-places.ensures.places
    ∙ ap (λ (head : Option Place). map Some (places_back held head)) c.head.ensures
    ∙ ap (map Some) (chain_goes_back held c.args.self.now.object c.args.self.now.head c.requires).1)
