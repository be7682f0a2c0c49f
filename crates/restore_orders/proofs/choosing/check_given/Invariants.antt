use Rattle.std.proofs.Common.{◌≡◌, take}
use Rattle.drive.specs.Fields.{state_in}
use Rattle.restore_orders.specs.Choosing.{AreGiven}
use Rattle.restore_orders.proofs.choosing.check_given.Given as goal

-- the numbers so far were given
abbrev pub invariant-loop-stand_in : goal.invariant-loop-stand_in
invariant-loop-stand_in g l = record {
  next : l.next ≡ (state_in l.drive).next;
  given : AreGiven (state_in l.drive) (take l.stand_in-index l.stand_ins);
}
