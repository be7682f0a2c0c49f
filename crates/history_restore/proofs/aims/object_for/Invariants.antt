use Rattle.std.proofs.Common.{◌≡◌, drop}
use Rattle.history_restore.specs.Aims.{object_for}
use Rattle.history_restore.proofs.aims.object_for.Given as goal

-- the object is that by the stand-ins that are left
abbrev pub invariant-loop-stand_in : goal.invariant-loop-stand_in
invariant-loop-stand_in l = object_for l.stand_ins l.number ≡ object_for (drop l.stand_in-index l.stand_ins) l.number
