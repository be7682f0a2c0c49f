use Rattle.std.proofs.Common.{◌≡◌, take}
use Rattle.std.specs.Prelude.{option_to_list}
use Rattle.std.specs.List.{flat_map}
use Rattle.drive.specs.Fields.{state_in, store_of}
use Rattle.history_view.specs.Logs.{stat_in}
use Rattle.history_view.proofs.stats.stats_in.Given as goal

-- the objects so far are counted, and the drive is as it was
abbrev pub invariant-loop-object : goal.invariant-loop-object
invariant-loop-object g l = record {
  ledger : l.drive.ledger ≡ l.initial.drive.ledger;
  store : store_of l.drive ≡ store_of l.initial.drive;
  stats : l.stats.items ≡ flat_map (λ o. option_to_list (stat_in (state_in l.initial.drive) (store_of l.initial.drive) l.query o)) (take l.object-index l.objects);
}
