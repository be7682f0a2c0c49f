use Rattle.std.proofs.Common.{sym, subst}
use Rattle.version_store.specs.Store.{StoreOf}
use Rattle.time_read.specs.Rows.{IsRow}
use Rattle.version_store.proofs.store.Store.entries.Goals as goal

pub entries-requires : goal.entries-requires
entries-requires g c =
    subst (λ (s : StoreOf _). IsRow (g.B.Blocks.log s.table).held c.args.object c.in-Some.row) (sym c.self.view_is)
    (c.requires.objects c.args.object c.in-Some.row (sym c.in-Some.ensures)).stands
