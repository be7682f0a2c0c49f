use Rattle.std.proofs.Common.{take}
use Rattle.s4serve_command.specs.CommandLine.{IsNoneOf, folders_of}
use Rattle.s4serve_command.proofs.doors.has_folder.Given as goal

-- none of the doors so far has the folder
abbrev pub invariant-loop-door : goal.invariant-loop-door
invariant-loop-door l = IsNoneOf (folders_of (take l.door-index l.doors)) l.folder
