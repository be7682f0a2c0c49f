use Rattle.std.proofs.Common.{◌≡◌, filter, take}
use Rattle.history_restore.specs.Aims.{is_not_skipped}
use Rattle.history_restore.proofs.aims.aims_without.Given as goal

-- those of the aims so far
abbrev pub invariant-loop-aim : goal.invariant-loop-aim
invariant-loop-aim l = l.left.items ≡ filter (is_not_skipped l.skipped) (take l.aim-index l.aims)
