use Rattle.std.proofs.Common.{sym, ap, ◌∙◌}
use Rattle.version_store.specs.Versions.{entries_of_row}
use Rattle.version_store.proofs.store.Store.remove.Goals as goal

pub names-requires : goal.names-requires
names-requires g c = record {
  row = (c.requires.store.objects c.args.object c.in-Some.row (sym c.in-Some.ensures)).stands;
  entries = c.requires.entries ∙ ap (entries_of_row (g.B.Blocks.log c.args.self.now.table).held c.args.object) (sym c.in-Some.ensures);
}
