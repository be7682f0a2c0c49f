-- What a service is that was stopped.
use Rattle.std.specs.Prelude.{◌≡◌, ℕ, List, Option, None, Some, map}
use Rattle.segment_table.specs.Room.{log_of}
use Rattle.version_store.specs.Store.{fields_of}
use Rattle.s4_types.specs.History.{Base}
use Rattle.drive.specs.Opened.{OpenedFields, base_of}
use Rattle.image_commands.specs.Making.{HasNew}
use Rattle.s4serve_command.specs.declared.ServiceAsked.{ServiceAsked}
use Rattle.s4serve_command.specs.declared.creating.Creation.{Creation}
use Rattle.s4serve.specs.Doors.{DoorFields, IsAdministrators, asked_door}
use Rattle.s4serve.specs.Ended.{HasBegun, HasBeenEnded}
use Rattle.s4serve.specs.Opening.{IsDriveIn}
use Rattle.s4serve.specs.Starts.{IsStart}

-- what is known of a file that a service opens: what was known of it before, or it is the image of a new drive where one was asked for
abbrev pub IsFound : Option Creation → (before known : Option (List ℕ)) → Type 0
IsFound None before known = known ≡ before
IsFound (Some creation) before known = HasNew creation.frames creation.keep known

-- what the history of an opened drive begins with
abbrev pub base_in : OpenedFields → Base
base_in drive = base_of (fields_of log_of drive.store) drive.timeline drive.next drive.audit

-- A door of administrators has this number: that of the `StopLine` which the end gave back. That `stop` was said at that door is what
-- `AtDoor::next` ensures, and nothing else makes such a line.
abbrev pub HasBeenStopped : List DoorFields → Type 0
HasBeenStopped doors = (number : ℕ) × IsAdministrators doors number

-- A service over the drive in a file began at a moment, by the machine's time that was read, and kept the drive there before its first session.
-- It was stopped at a door of administrators that was asked for, and kept the same drive at its end.
pub record HasServed {K : Type 0} (known : Option (List ℕ)) (may_leave : K → List ℕ → Type 0) (was_moved : K → Type 0) (has_read : ℕ → Type 0) (asked : ServiceAsked) : Type 0 where
  pub drive : OpenedFields
  pub there : IsDriveIn known drive
  pub system : ℕ
  pub read : has_read system
  pub start : ℕ
  pub begins : IsStart drive.timeline.clock drive.timeline.window asked.leap system start
  pub first : HasBegun may_leave drive.store.table.seat.table (base_in drive) start
  pub stopped : HasBeenStopped (map asked_door asked.doors.items)
  pub last : HasBeenEnded may_leave was_moved drive.store.table.seat.table (base_in drive) start
