-- What is said at the doors of a service.
use Rattle.std.specs.Prelude.{◌≡◌, ℕ, ⊤, List, Option}
use Rattle.s4_types.specs.declared.requests.Role.{Role}
use Rattle.s4_types.specs.declared.requests.Role.TheVariants.{Client, Admin}
use Rattle.door_lines.specs.Reading.{Held, Takes}
use Rattle.door_lines.specs.declared.line.DoorLine.{DoorLine}
use Rattle.door_lines.specs.declared.line.DoorLine.TheVariants as line
use Rattle.s4serve.specs.Doors.{DoorFields, IsDoorAt}
use Rattle.s4serve.specs.declared.heard.Said.{Said}
use Rattle.s4serve.specs.declared.heard.Said.TheVariants as said

-- what `stop` says at the door of this number, by its role: it is heeded where administrators come
abbrev pub stop_at : Role → ℕ → Said ℕ
stop_at Admin number = said.Stop number
stop_at Client number = said.Nothing

-- what a line says there
abbrev pub said_at : Role → ℕ → DoorLine → Said ℕ
said_at role number (line.Session name) = said.Session (record { door = number; name = name })
said_at role number line.Stop = stop_at role number
said_at role number line.Nothing = said.Nothing

-- what the next line of what comes says there
abbrev pub IsHeard : Role → ℕ → Held → Held → Option (List (List ℕ)) → Option (List (List ℕ)) → Said ℕ → Type 0
IsHeard role number held held' pieces later was_said = (line : DoorLine) × Takes held held' pieces later line × (was_said ≡ said_at role number line)

-- where a session was asked for, that was at this door
abbrev pub IsOfDoor : List DoorFields → DoorFields → Said ℕ → Type 0
IsOfDoor doors door (said.Session asked) = IsDoorAt doors asked.door door
IsOfDoor doors door (said.Stop number) = ⊤
IsOfDoor doors door said.Nothing = ⊤
