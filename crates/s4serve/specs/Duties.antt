-- What the threads of a service do.
use Rattle.std.specs.Prelude.{ℕ, ⊤, List}
use Rattle.s4serve.specs.Doors.{DoorFields, IsReadAt}
use Rattle.s4serve.specs.declared.spawning.Duty.{Duty}
use Rattle.s4serve.specs.declared.spawning.Duty.TheVariants.{Clean, Move, Serve, Watch}

-- whoever reads a door reads that one's own input
abbrev pub IsOwnDuty : {Input : Type 0} → (Input → List ℕ → Type 0) → List DoorFields → Duty Input → Type 0
IsOwnDuty reads doors Clean = ⊤
IsOwnDuty reads doors Move = ⊤
IsOwnDuty reads doors (Serve role) = ⊤
IsOwnDuty reads doors (Watch number input) = IsReadAt reads doors number input
