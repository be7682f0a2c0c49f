use Rattle.std.proofs.Common.{Option, sym, subst}
use Rattle.std.specs.List.{All}
use Rattle.s4_types.specs.Pointer.{Place}
use Rattle.block_log.specs.Log.{Stored}
use Rattle.version_store.specs.Store.{IsLed, sides_told}
use Rattle.version_store.proofs.Named.{all_of_data, all_or_nothing, recounted}
use Rattle.version_store.proofs.recounts.count_change.Goals as goal

pub hold_between-requires : goal.hold_between-requires
hold_between-requires g c = record { of_data = all_of_data c.args.object (g.B.Blocks.log c.args.table.now).held (sides_told c.args.entries.now) c.requires.told; room = c.requires.room }

pub drop_names-requires : goal.drop_names-requires
drop_names-requires g c =
    let before = g.B.Blocks.log c.args.table.now in
    record {
      of_data = all_or_nothing c.args.object (g.B.Blocks.log c.hold_between.new.table).held c.args.hand.now
          (subst (λ (held : Place → Option Stored). All (IsLed held c.args.object) c.args.hand.now) (sym c.hold_between.ensures.held) c.requires.hand);
    }

pub returns : goal.returns
returns g c =
    recounted g.met.B.Blocks.one_place_has_one_name g.met.B.Blocks.places_taken_add_up c.args.object (g.B.Blocks.log c.args.table.now) (g.B.Blocks.log c.hold_between.new.table) (g.B.Blocks.log c.drop_names.new.table) (sides_told c.args.entries.now) c.args.hand.now
    c.requires.told c.requires.hand c.hold_between.ensures c.names.ensures (record { named = c.drop_names.ensures.named; held = c.drop_names.ensures.held; takes = c.drop_names.ensures.takes }) c.names-2.ensures
