use Rattle.std.proofs.Common.{Option, sym, subst}
use Rattle.std.specs.List.{All}
use Rattle.s4_types.specs.Pointer.{Place}
use Rattle.block_log.specs.Log.{Stored}
use Rattle.std.specs.Prelude.{option_copied}
use Rattle.version_store.specs.Store.{IsLed}
use Rattle.version_store.specs.private.Names.{pointers_in}
use Rattle.version_store.proofs.Named.{all_of_data, all_or_nothing, recounted}
use Rattle.version_store.proofs.recounts.count_checkpoint.Goals as goal

pub hold_names-requires : goal.hold_names-requires
hold_names-requires g c = record { of_data = all_of_data c.args.object (g.B.Blocks.log c.args.table.now).held c.args.inode.now.pointers c.requires.pointers; room = c.requires.room }

pub drop_kept-requires : goal.drop_kept-requires
drop_kept-requires g c =
    all_or_nothing c.args.object (g.B.Blocks.log c.hold_names.new.table).held (pointers_in (option_copied c.args.gone))
    (subst (λ (held : Place → Option Stored). All (IsLed held c.args.object) (pointers_in (option_copied c.args.gone))) (sym c.hold_names.ensures.held) c.requires.gone)

pub returns : goal.returns
returns g c =
    recounted g.met.B.Blocks.one_place_has_one_name g.met.B.Blocks.places_taken_add_up c.args.object (g.B.Blocks.log c.args.table.now) (g.B.Blocks.log c.hold_names.new.table) (g.B.Blocks.log c.drop_kept.new.table) c.args.inode.now.pointers (pointers_in (option_copied c.args.gone))
    c.requires.pointers c.requires.gone (record { named = c.hold_names.ensures.named; held = c.hold_names.ensures.held; takes = c.hold_names.ensures.takes }) c.names.ensures c.drop_kept.ensures c.names-2.ensures
