use Rattle.std.proofs.Common.{take}
use Rattle.drive.specs.Fields.{state_in, store_of}
use Rattle.history_restore.specs.Whole.{IsCounted, RestoresInTurn}
use Rattle.history_restore.proofs.Each.{StandsBy, GoesOn}
use Rattle.history_restore.proofs.whole.restore_each.Given as goal

-- the objects so far were restored, their changes and numbers counted, and the rest stands
abbrev pub invariant-loop-aim : goal.invariant-loop-aim
invariant-loop-aim g l = record {
  stands : StandsBy (state_in l.initial.drive) (state_in l.drive) (take l.aim-index l.aims);
  goes : GoesOn (state_in l.initial.drive) (state_in l.drive) l.at (take l.aim-index l.aims) l.all.items;
  turn : RestoresInTurn (state_in l.initial.drive) (store_of l.initial.drive) l.now l.at l.all.items (state_in l.drive) (store_of l.drive);
  counted : IsCounted (state_in l.initial.drive) (state_in l.drive) l.now l.all.items;
}
