use Rattle.std.proofs.Common.{◌≡◌, drop}
use Rattle.drive.specs.Fields.{state_in, store_of}
use Rattle.history_restore.specs.Aims.{counting, object_for}
use Rattle.history_restore.proofs.aims.object_at.Given as goal

-- the object is that by the stand-ins that are left, over a drive that stays
abbrev pub invariant-loop-stand_in : goal.invariant-loop-stand_in
invariant-loop-stand_in g l = record {
  state : state_in l.drive ≡ state_in l.initial.drive;
  store : store_of l.drive ≡ store_of l.initial.drive;
  same : object_for (counting (state_in l.initial.drive) l.at l.stand_ins) l.number ≡ object_for (counting (state_in l.initial.drive) l.at (drop l.stand_in-index l.stand_ins)) l.number;
}
