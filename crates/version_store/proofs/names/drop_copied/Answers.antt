use Rattle.std.proofs.Common.{◌+◌, ◌∷◌, [], List, Option, Some, take, subst}
use Rattle.std.proofs.lemmas.List.{take_all}
use Rattle.s4_types.specs.Pointer.{Place}
use Rattle.lemmas.proofs.List.{map_take_next}
use Rattle.version_store.specs.declared.copies.CopiedBlock.{CopiedBlock}
use Rattle.version_store.specs.private.Names.{IsOfDataOrNothing, TakesAway, places_copied}
use Rattle.version_store.proofs.Gathering.{all_mapped_at, none_taken_away, takes_more}
use Rattle.version_store.proofs.Named.{still_one}
use Rattle.version_store.proofs.names.drop_copied.Goals as goal

abbrev one : CopiedBlock → Option Place
one = λ c. Some c.place

pub loop-copy-init : goal.loop-copy-init
loop-copy-init g c = none_taken_away g.met.B.Blocks.no_change_takes_no_place (g.B.Blocks.log c.args.table.now) c.names.ensures

pub drop_name-requires : goal.drop_name-requires
drop_name-requires g c = record {
  of_data = still_one (g.B.Blocks.log c.args.table.now).held (g.B.Blocks.log c.loop-copy.table).held (g.B.Blocks.log c.loop-copy.table).named c.loop-copy.invariant.held (one c.copy-item.result)
      (all_mapped_at (IsOfDataOrNothing (g.B.Blocks.log c.args.table.now).held) one c.args.copies.now c.loop-copy.copy-index c.copy-item.result c.loop-copy-test.true c.copy-item.is c.requires);
}

pub loop-copy-preserved : goal.loop-copy-preserved
loop-copy-preserved g c =
    takes_more g.met.B.Blocks.places_taken_add_up (g.B.Blocks.log c.args.table.now) (g.B.Blocks.log c.loop-copy.table) (g.B.Blocks.log c.drop_name.new.table)
    (places_copied (take (c.loop-copy.copy-index + 1) c.args.copies.now)) (places_copied (take c.loop-copy.copy-index c.args.copies.now)) (one c.copy-item.result ∷ [])
    (map_take_next one c.args.copies.now c.loop-copy.copy-index c.copy-item.result c.loop-copy-test.true c.copy-item.is)
    c.loop-copy.invariant (record { named = c.drop_name.ensures.named; held = c.drop_name.ensures.held; takes = c.drop_name.ensures.takes })

pub returns : goal.returns
returns g c =
    subst (λ (xs : List CopiedBlock). TakesAway (g.B.Blocks.log c.args.table.now) (places_copied xs) (g.B.Blocks.log c.loop-copy.table)) (take_all c.loop-copy.copy-index c.args.copies.now c.loop-copy-test.false) c.loop-copy.invariant
