-- What is made of a drive under its lock: requests that are answered one after another, and steps of upkeep.
use Rattle.std.specs.Prelude.{◌≡◌, ℕ, Bool, true, false, List, [], ◌∷◌, count_by}
use Rattle.s4_types.specs.declared.requests.Role.{Role}
use Rattle.s4_types.specs.declared.requests.Request.{Request}
use Rattle.s4_types.specs.declared.replies.Reply.{Reply}
use Rattle.s4_model.specs.Step.{Step}
use Rattle.drive.specs.Fields.{DriveFields, history_of, state_in, store_of}
use Rattle.drive.specs.Answering.{Leaves, is_acceptance, owners_after}

-- a request of a session with this seat and role was answered at a moment, or the cleaner or the copier took a step
pub data Event : Type 0 where
  Answers : (seat : ℕ) → Role → Request → (now : ℕ) → Reply → Event
  Tends : Event

-- A request is answered at a moment: by a step of the model on the drive's history, and with what that stores. An accepted change is
-- that seat's.
pub record IsAnswered (before : DriveFields) (seat : ℕ) (role : Role) (request : Request) (now : ℕ) (reply : Reply) (after : DriveFields) : Type 0 where
  pub step : Step (history_of before) role request now reply (history_of after)
  pub stored : Leaves (store_of before) (state_in before) request now reply (store_of after)
  pub owners : after.ledger.owners ≡ owners_after reply seat before.ledger.owners

-- Events, one after another, make the last drive of a first one: each request is answered at its moment, and a step of upkeep leaves the
-- history.
abbrev pub Makes : DriveFields → List Event → DriveFields → Type 0
Makes drive [] last = last ≡ drive
Makes drive (Answers seat role request now reply ∷ events) last = (next : DriveFields) × IsAnswered drive seat role request now reply next × Makes next events last
Makes drive (Tends ∷ events) last = (next : DriveFields) × (next.ledger ≡ drive.ledger) × Makes next events last

-- the moments of the answers, in their order: the k-th request that is answered has the k-th of them
abbrev pub moments_of : List Event → List ℕ
moments_of [] = []
moments_of (Answers seat role request now reply ∷ events) = now ∷ moments_of events
moments_of (Tends ∷ events) = moments_of events

-- whether an event is an answer
abbrev pub is_answer : Event → Bool
is_answer (Answers seat role request now reply) = true
is_answer Tends = false

-- whether it accepts a change
abbrev pub is_accepted : Event → Bool
is_accepted (Answers seat role request now reply) = is_acceptance reply
is_accepted Tends = false

-- whether it is a step of upkeep
abbrev pub is_upkeep : Event → Bool
is_upkeep (Answers seat role request now reply) = false
is_upkeep Tends = true

-- What a run has come to, by what holds of the drive that it began with, and of the moments that it may draw: events have made this drive of
-- that one, at such moments. This many requests were answered among them and this many changes accepted; and without upkeep no step of it
-- was taken.
pub record HasCome (begins : DriveFields → Type 0) (moments : List ℕ → Type 0) (has_upkeep : Bool) (requests changes : ℕ) (drive : DriveFields) : Type 0 where
  pub first : DriveFields
  pub began : begins first
  pub events : List Event
  pub made : Makes first events drive
  pub drawn : moments (moments_of events)
  pub answered : count_by is_answer events ≡ requests
  pub accepted : count_by is_accepted events ≡ changes
  pub untended : has_upkeep ≡ false → count_by is_upkeep events ≡ 0
