use Rattle.std.proofs.Common.{refl, ap}
use Rattle.segment_table.specs.Table.{Table}
use Rattle.segment_table.specs.Room.{log_of}
use Rattle.version_store.specs.Store.{StoreOf, fields_of}
use Rattle.drive.proofs.drive.Drive.settle.Goals as goal

pub returns-in-Err : goal.returns-in-Err
returns-in-Err g c =
    rw c.in-Err.is (refl, (c.see.ensures.ledger, ap (λ (x : StoreOf Table). fields_of log_of x) c.see.ensures.store, c.see.ensures.session, c.see.ensures.before, c.see.ensures.after))
