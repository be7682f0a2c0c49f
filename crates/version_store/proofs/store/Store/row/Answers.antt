use Rattle.std.proofs.Common.{◌≡◌, Some, subst}
use Rattle.object_map.specs.Rows.{row_of}
use Rattle.version_store.specs.Store.{StoreOf}
use Rattle.version_store.proofs.store.Store.row.Goals as goal

pub returns : goal.returns
returns g c = subst (λ (v : StoreOf _). Some c.in_ok-kept.kept.now.row ≡ row_of v.rows c.args.object) c.self.view_is c.in_ok-kept.ensures.row
