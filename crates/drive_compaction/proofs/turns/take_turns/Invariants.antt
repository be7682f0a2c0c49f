-- As far as the loop has come, turns were taken one after the other.
use Rattle.drive_compaction.specs.Emptying.{KeepsAll}
use Rattle.drive_compaction.specs.Turns.{TakesTurns}
use Rattle.drive_compaction.specs.private.Working.{IsLittleWork}
use Rattle.drive_compaction.proofs.turns.take_turns.Given as goal

abbrev pub invariant-loop-turns : goal.invariant-loop-turns
invariant-loop-turns g l =
    record {
      taken : TakesTurns l.cleans l.initial.drive l.turns l.work l.drive;
      little : IsLittleWork l.turns l.work;
      keeps : KeepsAll l.initial.drive l.drive;
    }
