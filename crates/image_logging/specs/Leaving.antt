-- What a crash leaves of an image and of the log beside it.
use Rattle.std.specs.Prelude.{◌≡◌, ◌⊎◌, ℕ, List, [], ◌∷◌, ◌++◌, Some, None}
use Rattle.image_logging.specs.Reading.{digest_of, read_of}

-- The outcomes of a crash for a log: by which digest it is bound to an image, and its records.
abbrev pub LogOutcomes : Type 1
LogOutcomes = (bound : List ℕ) → (payloads : List (List ℕ)) → Type 0

-- each outcome now is one of those before
abbrev pub AddsNoLog : (before now : LogOutcomes) → Type 0
AddsNoLog before now = (bound : List ℕ) (payloads : List (List ℕ)) → now bound payloads → before bound payloads

-- such an outcome with this record after its others
abbrev pub WithRecord : LogOutcomes → List ℕ → LogOutcomes
WithRecord before payload bound payloads = (others : List (List ℕ)) × before bound others × (payloads ≡ others ++ payload ∷ [])

-- an empty log of the image with this digest
abbrev pub IsEmpty : List ℕ → LogOutcomes
IsEmpty digest bound payloads = (bound ≡ digest) × (payloads ≡ [])

-- each outcome now is one of those before, or one of the others
abbrev pub AddsLog : (others before now : LogOutcomes) → Type 0
AddsLog others before now = (bound : List ℕ) (payloads : List (List ℕ)) → now bound payloads → before bound payloads ⊎ others bound payloads

-- each outcome is of a log that is bound by this digest
abbrev pub AreBound : LogOutcomes → List ℕ → Type 0
AreBound outcomes digest = (bound : List ℕ) (payloads : List (List ℕ)) → outcomes bound payloads → bound ≡ digest

-- each outcome is of a log that isn't this image's
abbrev pub AreOthers : LogOutcomes → (image : List ℕ) → Type 0
AreOthers outcomes image = (bound : List ℕ) (payloads : List (List ℕ)) → outcomes bound payloads → bound ≡ digest_of image → ⊥

-- a crash leaves an image and a log of which this front is read
pub record LeavesFront (images : List ℕ → Type 0) (logs : LogOutcomes) (front : List ℕ) : Type 0 where
  pub image : List ℕ
  pub bound : List ℕ
  pub payloads : List (List ℕ)
  pub there : images image
  pub beside : logs bound payloads
  pub reads : read_of image bound payloads ≡ Some front

-- Whatever a crash leaves, a front is read of it.
abbrev pub AreRead : (images : List ℕ → Type 0) → LogOutcomes → Type 0
AreRead images logs = (image bound : List ℕ) (payloads : List (List ℕ)) → images image → logs bound payloads → read_of image bound payloads ≡ None → ⊥

-- Whatever a crash leaves, the log is the image's.
abbrev pub AreTheirs : (images : List ℕ → Type 0) → LogOutcomes → Type 0
AreTheirs images logs = (image : List ℕ) → images image → AreBound logs (digest_of image)

-- Whatever a crash leaves, this front is read of it, if one is.
abbrev pub LeaveOnly : (images : List ℕ → Type 0) → LogOutcomes → List ℕ → Type 0
LeaveOnly images logs front = (other : List ℕ) → LeavesFront images logs other → other ≡ front
