-- What `at` writes, the bytes of an object at a moment, as an image tells it; or why it writes nothing.
use Rattle.std.specs.Prelude.{◌≡◌, ◌⊎◌, ℕ, List, [], Option, Some, ⊤}
use Rattle.std.specs.Io.KnownBytes.{Appends}
use Rattle.s4_types.specs.History.{Base}
use Rattle.s4_types.specs.declared.versions.Version.{Version}
use Rattle.s4_types.specs.declared.versions.Version.TheVariants.{Absent, Live}
use Rattle.s4_types.specs.declared.refusals.Refusal.{Refusal}
use Rattle.s4_types.specs.declared.refusals.Refusal.TheVariants.{Busy, NoMemory, NoObject}
use Rattle.s4_model.specs.Refusals.{moment_refusal}
use Rattle.s4_model.specs.State.{State, state_of}
use Rattle.s4_model.specs.VersionAt.{version_of}
use Rattle.s4_model.specs.Visible.{IsVisible}
use Rattle.history_view.specs.Contents.{content_of}
use Rattle.image_parts.specs.Image.{image_in}
use Rattle.verifier.specs.Images.{ImageFields}
use Rattle.verifier.specs.Opened.{IsToldBy}
use Rattle.image_commands.specs.declared.faults.Fault.{Fault}
use Rattle.image_commands.specs.declared.faults.Fault.TheVariants.{Refused}
use Rattle.image_commands.specs.Faults.{SaysUnread, SaysUnwritten}
use Rattle.image_commands.specs.Verifying.{IsVerified}

-- a version that isn't absent
abbrev pub IsLive : Version → Type 0
IsLive Absent = ⊥
IsLive (Live content attribute created changed) = ⊤

-- a version is live, and the output has all of its bytes after it
pub record GivesVersion (version : Version) (output output' : Option (List ℕ)) : Type 0 where
  pub live : IsLive version
  pub wrote : Appends output output' (content_of version)

-- the state of a drive that begins with a base and that nothing has happened to
abbrev pub state_from : Base → State
state_from base = state_of (record { base = base; records = [] })

-- the version of an object at a moment, in such a drive
abbrev pub version_from : Base → ℕ → ℕ → Version
version_from base o t = version_of (state_from base) o t

-- The output has the bytes of an object at a moment after it: those of the drive that begins with what an image tells, which was read
-- and verified.
pub record GivesObject (known : Option (List ℕ)) (o t : ℕ) (output output' : Option (List ℕ)) : Type 0 where
  pub image : ImageFields
  pub verified : IsVerified known image
  pub base : Base
  pub told : IsToldBy (image_in verified.bytes) base
  pub gives : GivesVersion (version_from base o t) output output'

-- Such a drive refuses the moment of the object; or the moment can be read, and the object isn't there.
abbrev pub RefusesVersion : Base → ℕ → ℕ → Refusal → Type 0
RefusesVersion base o t refusal =
    (moment_refusal (state_from base) o t ≡ Some refusal) ⊎ (IsVisible (state_from base) o t × (version_from base o t ≡ Absent) × (refusal ≡ NoObject))

-- The same of the drive that begins with what an image tells, which was read and verified.
pub record RefusesObject (known : Option (List ℕ)) (o t : ℕ) (refusal : Refusal) : Type 0 where
  pub image : ImageFields
  pub verified : IsVerified known image
  pub base : Base
  pub told : IsToldBy (image_in verified.bytes) base
  pub refused : RefusesVersion base o t refusal

-- a fault is a refusal for lack of memory or of a seat, or one of which this holds
abbrev pub SaysRefused : (Refusal → Type 0) → Fault → Type 0
SaysRefused Holds (Refused refusal) = (refusal ≡ NoMemory) ⊎ ((refusal ≡ Busy) ⊎ Holds refusal)
SaysRefused Holds _ = ⊥

-- Why the bytes of an object at a moment were not all written: the image wasn't read, its drive refuses them, or the output failed.
abbrev pub SaysUngiven : Option (List ℕ) → (image : List ℕ) → (o t : ℕ) → (failures failures' : ℕ) → Fault → Type 0
SaysUngiven known image o t failures failures' fault =
    SaysUnread known image fault ⊎ (SaysRefused (RefusesObject known o t) fault ⊎ SaysUnwritten failures failures' fault)
