use Rattle.std.proofs.Common.{rules, ◌≡◌, ◌∙◌, ◌<◌, ◌≤◌, ◌++◌, ◌∷◌, [], Option, Some, None, IsSome, map, length, refl, sym, ap, subst, arith, lit<, append_assoc, append-nil, length-append}
use Rattle.s4_types.specs.Pointer.{Place}
use Rattle.s4_types.specs.declared.limits.TheConstants.{CHAIN_BLOCKS}
use Rattle.journal_chain.specs.Back.{links_back, places_back}
use Rattle.journal_chain.proofs.Backwards.{NextPlace, next_block, some_places, few_places, no_places, place_reads}
use Rattle.journal_chain.proofs.rewriting.places.Goals as goal

pub loop-next-init : goal.loop-next-init
loop-next-init g c =
    let held = (g.B.Blocks.log c.args.table.now).held in
    let none : c.new-places.result.items ≡ [] = search rules in
    let few : length (places_back held c.args.head) ≤ CHAIN_BLOCKS = few_places held c.args.head c.requires in
    record {
      places = ap (λ l. l ++ map Some (places_back held c.args.head)) none;
      there = c.requires;
      few = let zero : length c.new-places.result.items ≡ 0 = ap length none in omega arith;
      same = refl;
    }

pub push-requires : goal.push-requires
push-requires g c =
    let some : 1 ≤ length (places_back (g.B.Blocks.log c.loop-next.table).held c.loop-next.next) = some_places (g.B.Blocks.log c.loop-next.table).held c.loop-next.next c.in-Some.place c.in-Some.is c.loop-next.invariant.there in
    let few = c.loop-next.invariant.few in
    let room : length c.loop-next.places.items < CHAIN_BLOCKS = omega arith in
    (lit< tt, room)

pub open-requires : goal.open-requires
open-requires g c =
    let held = (g.B.Blocks.log c.loop-next.table).held in
    place_reads held c.in-Some.place (subst (λ (q : Option Place). IsSome (links_back held q)) c.in-Some.is c.loop-next.invariant.there)

pub loop-next-smaller : goal.loop-next-smaller
loop-next-smaller g c =
    let log = g.B.Blocks.log c.loop-next.table in
    let later = g.B.Blocks.log c.open.new.table in
    let n : NextPlace log.held later.held c.loop-next.next c.previous-next.result c.in-Some.place =
    next_block log later c.loop-next.next c.previous-next.result c.in-Some.place c.open.result c.in-Some.is c.loop-next.invariant.there c.open.ensures.value c.open.ensures.same c.previous-next.ensures in
    let longer : length (places_back log.held c.loop-next.next) ≡ length (c.in-Some.place ∷ places_back later.held c.previous-next.result) = ap length n.places in
    let less : length (places_back later.held c.previous-next.result) < length (places_back log.held c.loop-next.next) = omega arith in
    less

pub loop-next-preserved : goal.loop-next-preserved
loop-next-preserved g c =
    let log = g.B.Blocks.log c.loop-next.table in
    let later = g.B.Blocks.log c.open.new.table in
    let p = c.in-Some.place in
    let rest = places_back later.held c.previous-next.result in
    let items = c.loop-next.places.items in
    let n : NextPlace log.held later.held c.loop-next.next c.previous-next.result p =
    next_block log later c.loop-next.next c.previous-next.result p c.open.result c.in-Some.is c.loop-next.invariant.there c.open.ensures.value c.open.ensures.same c.previous-next.ensures in
    let longer : length (places_back log.held c.loop-next.next) ≡ length (p ∷ rest) = ap length n.places in
    let more : length c.push.new.self.items ≡ length (items ++ Some p ∷ []) = ap length c.push.ensures.items in
    let few = c.loop-next.invariant.few in
    record {
      places = ap (λ l. l ++ map Some rest) c.push.ensures.items ∙ append_assoc items (Some p ∷ []) (map Some rest) ∙ ap (λ l. items ++ map Some l) (sym n.places) ∙ c.loop-next.invariant.places;
      there = n.there;
      few = omega (arith, length-append items (Some p ∷ []));
      same = c.open.ensures.same ∙ c.loop-next.invariant.same;
    }

pub returns-clause-places : goal.returns-clause-places
returns-clause-places g c =
    let held = (g.B.Blocks.log c.loop-next.table).held in
    let items = c.loop-next.places.items in
    let none : c.loop-next.next ≡ None = search rules in
    sym (append-nil items) ∙ ap (λ l. items ++ map Some l) (sym (ap (places_back held) none ∙ no_places held)) ∙ c.loop-next.invariant.places
