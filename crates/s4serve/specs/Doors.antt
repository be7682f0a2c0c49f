-- The doors of a service, and those that were asked for.
use Rattle.std.specs.Prelude.{◌≡◌, ◌<◌, ℕ, HoldsAt, List, length}
use Rattle.s4_types.specs.declared.requests.Role.{Role}
use Rattle.s4_types.specs.declared.requests.Role.TheVariants.{Admin}
use Rattle.door_files.specs.Paths.{door_path, input_path, output_path}
use Rattle.s4serve_command.specs.declared.doors.Door.{Door as AskedDoor}

-- what contracts see of a door: its role, and its folder
pub record DoorFields : Type 0 where
  pub role : Role
  pub folder : List ℕ

-- those of a door that was asked for
abbrev pub asked_door : AskedDoor → DoorFields
asked_door door = record { role = door.role; folder = door.folder.now }

-- the path of the door that was asked for names what is read
abbrev pub ReadsDoor : {Input : Type 0} → (Input → List ℕ → Type 0) → AskedDoor → Input → Type 0
ReadsDoor reads door input = reads input (door_path door.folder.now)

-- it is the door of this number, from 0 on
abbrev pub IsDoorAt : List DoorFields → ℕ → DoorFields → Type 0
IsDoorAt doors number door = (number < length doors) × HoldsAt (λ at. at ≡ door) doors number

-- the door of this number has this role
abbrev pub HasRole : List DoorFields → ℕ → Role → Type 0
HasRole doors number role = (number < length doors) × HoldsAt (λ at. at.role ≡ role) doors number

-- it is one of administrators
abbrev pub IsAdministrators : List DoorFields → ℕ → Type 0
IsAdministrators doors number = HasRole doors number Admin

-- the path of the door of this number names what is read
abbrev pub IsReadAt : {Input : Type 0} → (Input → List ℕ → Type 0) → List DoorFields → ℕ → Input → Type 0
IsReadAt reads doors number input = (number < length doors) × HoldsAt (λ at. reads input (door_path at.folder)) doors number

-- the path of a door names what is read
abbrev pub ReadsAt : {Input : Type 0} → (Input → List ℕ → Type 0) → DoorFields → Input → Type 0
ReadsAt reads door input = reads input (door_path door.folder)

-- The streams of a session that was asked for by this name at the door of this number, from 0 on, and the role that they have: that door's.
pub record AreAtDoor {I O : Type 0} (reads : I → List ℕ → Type 0) (writes : O → List ℕ → Type 0) (doors : List DoorFields) (number : ℕ) (name : List ℕ) (from : I) (to : O) (role : Role) : Type 0 where
  pub door : DoorFields
  pub there : (number < length doors) × HoldsAt (λ at. door ≡ at) doors number
  pub serves : role ≡ door.role
  pub streams : reads from (input_path door.folder name) × writes to (output_path door.folder name)
