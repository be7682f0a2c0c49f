use Rattle.std.proofs.Common.{sym, subst}
use Rattle.std.specs.List.{All}
use Rattle.s4_types.specs.Pointer.{Place}
use Rattle.std.proofs.Common.{Option}
use Rattle.block_log.specs.Log.{Stored}
use Rattle.version_store.specs.Store.{IsLed}
use Rattle.version_store.proofs.Named.{all_of_data, all_or_nothing, recounted}
use Rattle.version_store.proofs.recounts.recount.Goals as goal

pub hold_names-requires : goal.hold_names-requires
hold_names-requires g c = record { of_data = all_of_data c.args.object (g.B.Blocks.log c.args.table.now).held c.args.more.now c.requires.more; room = c.requires.room }

pub drop_names-requires : goal.drop_names-requires
drop_names-requires g c = record {
  of_data = all_or_nothing c.args.object (g.B.Blocks.log c.hold_names.new.table).held c.args.fewer.now
      (subst (λ (held : Place → Option Stored). All (IsLed held c.args.object) c.args.fewer.now) (sym c.hold_names.ensures.held) c.requires.fewer);
}

pub returns : goal.returns
returns g c =
    recounted g.met.B.Blocks.one_place_has_one_name g.met.B.Blocks.places_taken_add_up c.args.object (g.B.Blocks.log c.args.table.now) (g.B.Blocks.log c.hold_names.new.table) (g.B.Blocks.log c.drop_names.new.table) c.args.more.now c.args.fewer.now
    c.requires.more c.requires.fewer (record { named = c.hold_names.ensures.named; held = c.hold_names.ensures.held; takes = c.hold_names.ensures.takes }) c.names.ensures
    (record { named = c.drop_names.ensures.named; held = c.drop_names.ensures.held; takes = c.drop_names.ensures.takes }) c.names-2.ensures
