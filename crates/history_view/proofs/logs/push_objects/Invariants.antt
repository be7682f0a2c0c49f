use Rattle.std.proofs.Common.{◌≡◌, ◌++◌, take}
use Rattle.std.specs.List.{flat_map}
use Rattle.drive.specs.Fields.{state_in, store_of}
use Rattle.history_view.specs.Logs.{rows_of}
use Rattle.history_view.proofs.logs.push_objects.Given as goal

-- the rows of the objects so far are added, and the drive is as it was
abbrev pub invariant-loop-object : goal.invariant-loop-object
invariant-loop-object g l = record {
  ledger : l.drive.ledger ≡ l.initial.drive.ledger;
  store : store_of l.drive ≡ store_of l.initial.drive;
  rows : l.rows.items ≡ l.initial.rows.items ++ flat_map (rows_of (state_in l.initial.drive) (store_of l.initial.drive) l.query.since l.query.until) (take l.object-index l.objects);
}
