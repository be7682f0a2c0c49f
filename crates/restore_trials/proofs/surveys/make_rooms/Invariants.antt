use Rattle.std.proofs.Common.{◌≡◌, [], take}
use Rattle.restore_trials.specs.Surveys.{AreMade}
use Rattle.restore_trials.proofs.surveys.make_rooms.Given as goal

-- room was made in the journals so far, where none is listed
abbrev pub invariant-loop-room : goal.invariant-loop-room
invariant-loop-room g l = l.unmade.items ≡ [] → AreMade l.fn.drive l.moments (take l.room-index l.full) l.drive
