use Rattle.std.proofs.Common.{◌+◌, ◌∷◌, [], List, Option, Some, take, sym, subst}
use Rattle.std.proofs.lemmas.List.{take_all}
use Rattle.s4_types.specs.Pointer.{Place}
use Rattle.lemmas.proofs.List.{map_take_next}
use Rattle.version_store.specs.declared.copies.CopiedBlock.{CopiedBlock}
use Rattle.version_store.specs.private.Names.{IsOfData, Gives, places_copied}
use Rattle.version_store.proofs.Gathering.{all_mapped_at, none_given, gives_more, mapped_room}
use Rattle.version_store.proofs.names.hold_copied.Goals as goal

abbrev one : CopiedBlock → Option Place
one = λ c. Some c.place

pub loop-copy-init : goal.loop-copy-init
loop-copy-init g c = none_given g.met.B.Blocks.no_change_takes_no_place (g.B.Blocks.log c.args.table.now)

pub hold_name-requires : goal.hold_name-requires
hold_name-requires g c = record {
  of_data = subst (λ (held : Place → _). IsOfData held (one c.copy-item.result)) (sym c.loop-copy.invariant.held)
      (all_mapped_at (IsOfData (g.B.Blocks.log c.args.table.now).held) one c.args.copies.now c.loop-copy.copy-index c.copy-item.result c.loop-copy-test.true c.copy-item.is c.requires.of_data);
  room = λ q. mapped_room one c.args.copies.now c.loop-copy.copy-index q _ _ _ c.loop-copy-test.true (c.requires.room q) (c.loop-copy.invariant.named q);
}

pub loop-copy-preserved : goal.loop-copy-preserved
loop-copy-preserved g c =
    gives_more g.met.B.Blocks.places_taken_add_up (g.B.Blocks.log c.args.table.now) (g.B.Blocks.log c.loop-copy.table) (g.B.Blocks.log c.hold_name.new.table)
    (places_copied (take (c.loop-copy.copy-index + 1) c.args.copies.now)) (places_copied (take c.loop-copy.copy-index c.args.copies.now)) (one c.copy-item.result ∷ [])
    (map_take_next one c.args.copies.now c.loop-copy.copy-index c.copy-item.result c.loop-copy-test.true c.copy-item.is)
    c.loop-copy.invariant (record { named = c.hold_name.ensures.named; held = c.hold_name.ensures.held; takes = c.hold_name.ensures.takes })

pub returns : goal.returns
returns g c =
    subst (λ (xs : List CopiedBlock). Gives (g.B.Blocks.log c.args.table.now) (places_copied xs) (g.B.Blocks.log c.loop-copy.table)) (take_all c.loop-copy.copy-index c.args.copies.now c.loop-copy-test.false) c.loop-copy.invariant
