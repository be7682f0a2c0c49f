use Rattle.std.proofs.Common.{◌+◌, ◌∷◌, [], List, Option, take, sym, subst}
use Rattle.std.specs.List.{All}
use Rattle.std.proofs.lemmas.List.{take_all}
use Rattle.s4_types.specs.Pointer.{Place}
use Rattle.lemmas.proofs.List.{flat_map_take_next, all_of_one}
use Rattle.codec.specs.declared.entries.Triple.{Triple}
use Rattle.version_store.specs.Store.{sides_of}
use Rattle.version_store.specs.private.Names.{IsOfData, Gives}
use Rattle.version_store.proofs.Named.{times_few}
use Rattle.version_store.proofs.Gathering.{room_more, none_given, gives_more}
use Rattle.version_store.proofs.names.hold_sides.Goals as goal

abbrev one : Triple → List (Option Place)
one = λ t. t.before ∷ t.after ∷ []

pub loop-triple-init : goal.loop-triple-init
loop-triple-init g c = none_given g.met.B.Blocks.no_change_takes_no_place (g.B.Blocks.log c.args.table.now)

pub hold_names-requires-clause-of_data : goal.hold_names-requires-clause-of_data
hold_names-requires-clause-of_data g c =
    subst (λ (held : Place → _). All (IsOfData held) (one c.triple-item.result)) (sym c.loop-triple.invariant.held)
    (all_of_one (IsOfData (g.B.Blocks.log c.args.table.now).held) one c.args.triples.now c.loop-triple.triple-index c.triple-item.result c.loop-triple-test.true c.triple-item.is c.requires.of_data)

pub hold_names-requires-clause-room : goal.hold_names-requires-clause-room
hold_names-requires-clause-room g c = λ q.
    room_more one c.args.triples.now c.loop-triple.triple-index c.triple-item.result _ _ _ _ c.loop-triple-test.true c.triple-item.is (c.requires.room q) (c.loop-triple.invariant.named q) (times_few q (sides_of (take c.loop-triple.triple-index c.args.triples.now)))

pub loop-triple-preserved : goal.loop-triple-preserved
loop-triple-preserved g c =
    gives_more g.met.B.Blocks.places_taken_add_up (g.B.Blocks.log c.args.table.now) (g.B.Blocks.log c.loop-triple.table) (g.B.Blocks.log c.hold_names.new.table)
    (sides_of (take (c.loop-triple.triple-index + 1) c.args.triples.now)) (sides_of (take c.loop-triple.triple-index c.args.triples.now)) (one c.triple-item.result)
    (flat_map_take_next one c.args.triples.now c.loop-triple.triple-index c.triple-item.result c.loop-triple-test.true c.triple-item.is)
    c.loop-triple.invariant (record { named = c.hold_names.ensures.named; held = c.hold_names.ensures.held; takes = c.hold_names.ensures.takes })

pub returns : goal.returns
returns g c =
    subst (λ (xs : List Triple). Gives (g.B.Blocks.log c.args.table.now) (sides_of xs) (g.B.Blocks.log c.loop-triple.table)) (take_all c.loop-triple.triple-index c.args.triples.now c.loop-triple-test.false) c.loop-triple.invariant
