-- As far as the loop has come, the places are those that lead to data.
use Rattle.std.proofs.Common.{◌≡◌, filter, take}
use Rattle.segment_table.specs.Table.{held_at}
use Rattle.segment_copier.specs.Moves.{is_data}
use Rattle.segment_copier.proofs.held.data_among.Given as goal

abbrev pub invariant-loop-pointer : goal.invariant-loop-pointer
invariant-loop-pointer g l =
    record {
      same : l.drive ≡ l.initial.drive;
      found : l.places.items ≡ filter (λ p. is_data (held_at l.initial.drive.store.table p)) (take l.pointer-index l.pointers);
    }
