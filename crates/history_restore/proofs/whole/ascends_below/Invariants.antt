use Rattle.std.proofs.Common.{drop}
use Rattle.history_restore.proofs.Rows.{AscendOn}
use Rattle.history_restore.proofs.whole.ascends_below.Given as goal

-- the numbers ascend if those that are left do
abbrev pub invariant-loop-aim : goal.invariant-loop-aim
invariant-loop-aim l = AscendOn l.next l.last l.aims (drop l.aim-index l.aims)
