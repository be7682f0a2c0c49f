use Rattle.undo_redo.proofs.Differing.{between_length}
use Rattle.undo_redo.proofs.BetweenLaws.{between_run, can_grouped, between_rules, between_at, between_count, between_tell, between_sizes}
use Rattle.undo_redo.proofs.laws.the_entries_between_two_inodes.Goals as goal

pub returns : goal.returns
returns c = record { run = λ i j m can. between_run i j m can.created can.count_before can.count_after; group = can_grouped; rules = between_rules; moments = between_at; count = between_count; pointers = between_tell; sizes = between_sizes; few = between_length }
