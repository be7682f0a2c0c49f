use Rattle.std.proofs.Common.{◌≡◌, filter, take}
use Rattle.history_restore.specs.Aims.{is_asked}
use Rattle.history_restore.proofs.aims.asked_among.Given as goal

-- those of the aims so far
abbrev pub invariant-loop-aim : goal.invariant-loop-aim
invariant-loop-aim l = l.chosen.items ≡ filter (is_asked l.asked) (take l.aim-index l.aims)
