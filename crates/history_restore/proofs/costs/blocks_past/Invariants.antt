use Rattle.std.proofs.Common.{◌≡◌, ◌≤◌}
use Rattle.version_store.specs.Costs.{is_past}
use Rattle.version_store.proofs.Counting.{tally}
use Rattle.history_restore.proofs.costs.blocks_past.Given as goal

abbrev pub invariant-loop-index : goal.invariant-loop-index
invariant-loop-index l = record { counted : l.count ≡ tally (is_past l.inode l.size) 0 l.index; most : l.count ≤ l.index }
