use Rattle.std.proofs.Common.{sym, subst}
use Rattle.version_store.specs.Store.{StoreOf}
use Rattle.time_read.specs.Rows.{IsRow}
use Rattle.version_store.proofs.store.Store.entry_past_checkpoint.Goals as goal

pub last_entry-moment-requires : goal.last_entry-moment-requires
last_entry-moment-requires g c =
    subst (λ (s : StoreOf _). IsRow (g.B.Blocks.log s.table).held c.args.object c.args.row.now) (sym c.self.view_is)
    (c.requires.store.objects c.args.object c.args.row.now c.requires.row).stands
