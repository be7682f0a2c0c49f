use Rattle.std.proofs.Common.{◌++◌, List, Option, Some, map, sym, subst, ◌∙◌, arith}
use Rattle.std.specs.List.{All}
use Rattle.s4_types.specs.Pointer.{Place}
use Rattle.block_log.specs.Log.{Stored}
use Rattle.chain_rewriting.specs.Renaming.{renamed_slot}
use Rattle.version_store.specs.Store.{IsLed}
use Rattle.version_store.specs.private.Names.{Gives, IsOfData, IsOfDataOrNothing, TakesAway, places_copied}
use Rattle.std.proofs.lemmas.List.{length-map}
use Rattle.std.proofs.lemmas.List.Elements.{All-append}
use Rattle.version_store.proofs.Named.{all_of_data, all_or_nothing, gives_join, recounted, still_or_nothing, takes_join, times_few}
use Rattle.version_store.proofs.recounts.count_renaming.Goals as goal

pub hold_copied-requires : goal.hold_copied-requires
hold_copied-requires g c = record {
  of_data = all_of_data c.args.object (g.B.Blocks.log c.args.table.now).held (places_copied c.args.copies.now) c.requires.copied;
  room = λ q. let room = c.requires.room q in omega (arith, room);
}

pub hold_renamed-requires : goal.hold_renamed-requires
hold_renamed-requires g c =
    let renamed = map (renamed_slot c.args.renaming.now) c.args.led.now in
    record {
      of_data = subst (λ (view : Place → Option Stored). All (IsOfData view) renamed) (sym c.hold_copied.ensures.held) (all_of_data c.args.object (g.B.Blocks.log c.args.table.now).held renamed c.requires.renamed);
      room = λ q.
          let room = c.requires.room q in
          let given = c.hold_copied.ensures.named q in
          let few = times_few q (places_copied c.args.copies.now) in
          let copied = length-map c.args.copies.now (λ copy. Some copy.place) in
          omega (arith, room, given, few, copied);
    }

pub drop_names-requires : goal.drop_names-requires
drop_names-requires g c = record {
  of_data = subst (λ (view : Place → Option Stored). All (IsOfDataOrNothing view) c.args.names.now) (sym (c.hold_renamed.ensures.held ∙ c.hold_copied.ensures.held)) (all_or_nothing c.args.object (g.B.Blocks.log c.args.table.now).held c.args.names.now c.requires.names);
}

pub drop_names-requires-2 : goal.drop_names-requires-2
drop_names-requires-2 g c =
    let given = g.B.Blocks.log c.hold_renamed.new.table in
    record {
      of_data = subst (λ (xs : List (Option Place)). All (IsOfDataOrNothing (g.B.Blocks.log c.drop_names.new.table).held) xs) (sym c.moves.ensures)
          (still_or_nothing given (g.B.Blocks.log c.drop_names.new.table) c.args.names.now c.args.renaming.now.moves (record { named = c.drop_names.ensures.named; held = c.drop_names.ensures.held; takes = c.drop_names.ensures.takes })
          (subst (λ (view : Place → Option Stored). All (IsOfDataOrNothing view) c.args.renaming.now.moves) (sym (c.hold_renamed.ensures.held ∙ c.hold_copied.ensures.held)) (all_or_nothing c.args.object (g.B.Blocks.log c.args.table.now).held c.args.renaming.now.moves c.requires.new)));
    }

pub returns : goal.returns
returns g c =
    let before = g.B.Blocks.log c.args.table.now in
    let given = g.B.Blocks.log c.hold_renamed.new.table in
    let after = g.B.Blocks.log c.drop_names-2.new.table in
    let o = c.args.object in
    let copied = places_copied c.args.copies.now in
    let renamed = map (renamed_slot c.args.renaming.now) c.args.led.now in
    let moves = c.args.renaming.now.moves in
    let gives : Gives before (copied ++ renamed) given = gives_join g.met.B.Blocks.places_taken_add_up before (g.B.Blocks.log c.hold_copied.new.table) given copied renamed c.hold_copied.ensures c.hold_renamed.ensures in
    let second : TakesAway (g.B.Blocks.log c.drop_names.new.table) moves after = subst (λ (xs : List (Option Place)). TakesAway (g.B.Blocks.log c.drop_names.new.table) xs after) c.moves.ensures
    (record { named = c.drop_names-2.ensures.named; held = c.drop_names-2.ensures.held; takes = c.drop_names-2.ensures.takes }) in
    let takes : TakesAway given (c.args.names.now ++ moves) after = takes_join g.met.B.Blocks.places_taken_add_up given (g.B.Blocks.log c.drop_names.new.table) after c.args.names.now moves
    (record { named = c.drop_names.ensures.named; held = c.drop_names.ensures.held; takes = c.drop_names.ensures.takes }) second in
    recounted g.met.B.Blocks.one_place_has_one_name g.met.B.Blocks.places_taken_add_up o before given after (copied ++ renamed) (c.args.names.now ++ moves)
    (All-append (IsLed before.held o) copied renamed c.requires.copied c.requires.renamed) (All-append (IsLed before.held o) c.args.names.now moves c.requires.names c.requires.new) gives c.names.ensures takes c.names-2.ensures
