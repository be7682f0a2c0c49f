use Rattle.std.proofs.Common.{◌+◌, ◌∷◌, [], List, Option, map, take, sym, subst}
use Rattle.std.proofs.lemmas.List.{take_all}
use Rattle.s4_types.specs.Pointer.{Place}
use Rattle.lemmas.proofs.List.{map_take_next}
use Rattle.chain_rewriting.specs.Renaming.{renamed_slot}
use Rattle.version_store.specs.private.Names.{IsOfData, Gives}
use Rattle.version_store.proofs.Gathering.{all_mapped_at, none_given, gives_more, mapped_room}
use Rattle.version_store.proofs.names.hold_renamed.Goals as goal

pub loop-pointer-init : goal.loop-pointer-init
loop-pointer-init g c = none_given g.met.B.Blocks.no_change_takes_no_place (g.B.Blocks.log c.args.table.now)

pub hold_name-requires : goal.hold_name-requires
hold_name-requires g c = record {
  of_data = subst (IsOfData (g.B.Blocks.log c.loop-pointer.table).held) (sym c.rename.ensures.exact)
      (subst (λ (held : Place → _). IsOfData held (renamed_slot c.args.renaming.now c.pointer-item.result)) (sym c.loop-pointer.invariant.held)
      (all_mapped_at (IsOfData (g.B.Blocks.log c.args.table.now).held) (renamed_slot c.args.renaming.now) c.args.pointers.now c.loop-pointer.pointer-index c.pointer-item.result c.loop-pointer-test.true c.pointer-item.is c.requires.of_data));
  room = λ q. mapped_room (renamed_slot c.args.renaming.now) c.args.pointers.now c.loop-pointer.pointer-index q _ _ _ c.loop-pointer-test.true (c.requires.room q) (c.loop-pointer.invariant.named q);
}

pub loop-pointer-preserved : goal.loop-pointer-preserved
loop-pointer-preserved g c =
    gives_more g.met.B.Blocks.places_taken_add_up (g.B.Blocks.log c.args.table.now) (g.B.Blocks.log c.loop-pointer.table) (g.B.Blocks.log c.hold_name.new.table)
    (map (renamed_slot c.args.renaming.now) (take (c.loop-pointer.pointer-index + 1) c.args.pointers.now)) (map (renamed_slot c.args.renaming.now) (take c.loop-pointer.pointer-index c.args.pointers.now)) (renamed_slot c.args.renaming.now c.pointer-item.result ∷ [])
    (map_take_next (renamed_slot c.args.renaming.now) c.args.pointers.now c.loop-pointer.pointer-index c.pointer-item.result c.loop-pointer-test.true c.pointer-item.is)
    c.loop-pointer.invariant
    (subst (λ (x : Option Place). Gives (g.B.Blocks.log c.loop-pointer.table) (x ∷ []) (g.B.Blocks.log c.hold_name.new.table)) c.rename.ensures.exact (record { named = c.hold_name.ensures.named; held = c.hold_name.ensures.held; takes = c.hold_name.ensures.takes }))

pub returns : goal.returns
returns g c =
    subst (λ (xs : List (Option Place)). Gives (g.B.Blocks.log c.args.table.now) (map (renamed_slot c.args.renaming.now) xs) (g.B.Blocks.log c.loop-pointer.table)) (take_all c.loop-pointer.pointer-index c.args.pointers.now c.loop-pointer-test.false) c.loop-pointer.invariant
