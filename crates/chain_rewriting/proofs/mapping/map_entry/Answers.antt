use Rattle.std.proofs.Common.{List, map, Option, refl, ap, subst, sym, ◌∙◌}
use Rattle.std.specs.Prelude.{IsSome}
use Rattle.codec.specs.declared.entries.Triple.{Triple}
use Rattle.codec.specs.Entry.{EntryFields}
use Rattle.chain_rewriting.specs.Mapping.{mapped_triple}
use Rattle.chain_rewriting.proofs.Rules.{made_mapped}
use Rattle.chain_rewriting.proofs.mapping.map_entry.Goals as goal

pub unwrap-requires : goal.unwrap-requires
unwrap-requires g c =
    let f = g.M.MapsPlaces.to c.args.by.now in
    let rules = c.triples.ensures.rules in
    let made = made_mapped (g.M.MapsPlaces.is_known c.args.by.now) f c.args.entry.now _ _ _ _ _ c.new.result c.requires.one c.requires.told rules c.moment.ensures c.before-2.ensures c.after.ensures c.pair.ensures
    (c.map_triples-triples.ensures ∙ ap (λ (ts : List Triple). map (mapped_triple f) ts) c.triples.ensures.triples) c.new.ensures in
    subst (λ (o : Option EntryFields). IsSome o) (sym made) refl
