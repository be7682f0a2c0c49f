-- What is said at a door.
use Rattle.std.proofs.Common.{◌≡◌, ℕ, List, subst, sym}
use Rattle.s4_types.specs.declared.requests.Role.{Role}
use Rattle.s4_types.specs.declared.requests.Role.TheVariants.{Client, Admin}
use Rattle.door_lines.specs.declared.line.DoorLine.{DoorLine}
use Rattle.door_lines.specs.declared.line.DoorLine.TheVariants as line
use Rattle.s4serve.specs.Doors.{DoorFields, IsDoorAt}
use Rattle.s4serve.specs.Heard.{IsOfDoor, said_at}
use Rattle.s4serve.specs.declared.heard.Said.{Said}

of_line : (doors : List DoorFields) (door : DoorFields) (number : ℕ) (role : Role) (l : DoorLine) → IsDoorAt doors number door → IsOfDoor doors door (said_at role number l)
of_line doors door number role (line.Session name) at = at
of_line doors door number Admin line.Stop at = tt
of_line doors door number Client line.Stop at = tt
of_line doors door number role line.Nothing at = tt

-- a session that a line there asks for is at this door
pub of_door : (doors : List DoorFields) (door : DoorFields) (number : ℕ) (role : Role) (l : DoorLine) (said : Said ℕ) → IsDoorAt doors number door → said ≡ said_at role number l → IsOfDoor doors door said
of_door doors door number role l said at is = subst (λ (s : Said ℕ). IsOfDoor doors door s) (sym is) (of_line doors door number role l at)
