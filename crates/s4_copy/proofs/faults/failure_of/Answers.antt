use Rattle.s4_copy.proofs.faults.failure_of.Goals as goal

pub returns-in-NoRoom-clause-other : goal.returns-in-NoRoom-clause-other
returns-in-NoRoom-clause-other c = λ other. absurd (other c.in-NoRoom.is)

pub returns-in_default-clause-room : goal.returns-in_default-clause-room
returns-in_default-clause-room c = λ room. absurd (c.in_default.not-NoRoom room)
