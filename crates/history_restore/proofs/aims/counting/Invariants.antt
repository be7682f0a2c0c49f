use Rattle.std.proofs.Common.{◌≡◌, take}
use Rattle.drive.specs.Fields.{state_in, store_of}
use Rattle.history_restore.specs.Aims.{counting}
use Rattle.history_restore.proofs.aims.counting.Given as goal

-- those so far that count, over a drive that stays
abbrev pub invariant-loop-stand_in : goal.invariant-loop-stand_in
invariant-loop-stand_in g l = record {
  state : state_in l.drive ≡ state_in l.initial.drive;
  store : store_of l.drive ≡ store_of l.initial.drive;
  found : l.found.items ≡ counting (state_in l.initial.drive) l.at (take l.stand_in-index l.stand_ins);
}
