use Rattle.std.proofs.Common.{◌≡◌, take}
use Rattle.history_restore.specs.Aims.{aims_by}
use Rattle.history_restore.proofs.aims.aims_by.Given as goal

-- the aims of the rows so far
abbrev pub invariant-loop-number : goal.invariant-loop-number
invariant-loop-number l = l.aims.items ≡ aims_by l.stand_ins (take l.number-index l.rows)
