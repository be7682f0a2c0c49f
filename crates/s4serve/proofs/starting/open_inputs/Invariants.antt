use Rattle.std.proofs.Common.{take}
use Rattle.std.specs.List.{AllZip}
use Rattle.s4serve.specs.Doors.{ReadsDoor}
use Rattle.s4serve.proofs.starting.open_inputs.Given as goal

-- what is read at the doors that were asked for until now
abbrev pub invariant-loop-door : goal.invariant-loop-door
invariant-loop-door g l = record { inputs : AllZip (ReadsDoor g.D.Fifos.reads) (take l.door-index l.asked) l.inputs.items }
