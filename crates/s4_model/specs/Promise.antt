-- The promises, in the words of the model alone: what clients can't take away, what a session is answered beside others, and what
-- an image tells of the drive that it was saved from.
use Rattle.std.specs.Prelude.{◌≡◌, ◌↔◌, ℕ, ◌-◌, ◌≤◌, max, List, []}
use mathlib.Core.List.{IsPrefix}
use Rattle.s4_types.specs.History.{History, Base, accepted}
use Rattle.s4_types.specs.declared.changes.Accepted.{Accepted}
use Rattle.s4_types.specs.declared.requests.Role.{Role}
use Rattle.s4_types.specs.declared.requests.Request.{Request}
use Rattle.s4_types.specs.declared.replies.Reply.{Reply}
use Rattle.s4_types.specs.declared.versions.Version.{Version}
use Rattle.s4_model.specs.Numbers.{clock_of, window_of, floor_of, next_of}
use Rattle.s4_model.specs.State.{state_of}
use Rattle.s4_model.specs.VersionAt.{version_of}
use Rattle.s4_model.specs.Audit.{audit_of}
use Rattle.s4_model.specs.Visible.{IsVisible, spans_of}
use Rattle.s4_model.specs.Runs.{is_covered}
use Rattle.s4_model.specs.Step.{Step}
use Rattle.s4_model.specs.Exchanges.{Exchange, Leads, AreOfClients}

-- ---- what clients can't take away

-- From a history to a later one nothing was lost of the past but by age: each moment of an object that could be read, and that is still
-- at or above the floor, can be read, and its version is the same. The window is the same. The floor is where it was, or where the window
-- reaches back from the clock, whichever is higher.
pub record KeepsThePast (h after : History) : Type 0 where
  pub visible : (o t : ℕ) → IsVisible (state_of h) o t → floor_of after ≤ t → IsVisible (state_of after) o t
  pub same : (o t : ℕ) → IsVisible (state_of h) o t → version_of (state_of after) o t ≡ version_of (state_of h) o t
  pub window : window_of after ≡ window_of h
  pub floor : floor_of after ≡ max (floor_of h) (clock_of after - window_of after)

-- whatever clients ask keeps the past
abbrev pub ClientsKeepThePast : Type 0
ClientsKeepThePast = (h after : History) (exchanges : List Exchange) → AreOfClients exchanges → Leads h exchanges after → KeepsThePast h after

-- ---- what is asked beside others

-- a session, as the promises speak of it: what it may do, and the accepted changes that it has seen
pub record Session : Type 0 where
  pub role : Role
  pub seen : List Accepted

-- A request of a session that shares its drive: whatever others did meanwhile, it is answered by the model's step on a history with this
-- base, whose accepted changes begin with those that the session had seen. Afterwards the session has seen all that were accepted.
pub record StepsBeside (base : Base) (old : Session) (request : Request) (now : ℕ) (reply : Reply) (new : Session) : Type 0 where
  pub before : History
  pub after : History
  pub begins : before.base ≡ base
  pub had_seen : IsPrefix old.seen (accepted before)
  pub step : Step before old.role request now reply after
  pub has_seen : new ≡ record { role = old.role; seen = accepted after }

-- ---- what a full pass of the cleaner leaves

-- The history is as it was; at each moment that can be read each object still has its version; and of each object exactly those places
-- are held that one of these versions reaches.
pub record IsCleanedUp {Place : Type 0} (h after : History) (decoded : ℕ → ℕ → Version) (held : ℕ → Place → Type 0) (reaches : ℕ → ℕ → Place → Type 0) : Type 0 where
  pub history : after ≡ h
  pub versions : (o t : ℕ) → IsVisible (state_of h) o t → decoded o t ≡ version_of (state_of h) o t
  pub places : (o : ℕ) (p : Place) → held o p ↔ ((t : ℕ) × IsVisible (state_of h) o t × reaches o t p)

-- ---- what an image tells of the drive that it was saved from

-- a history that begins with a base, and to which nothing has come yet
abbrev pub beginning : Base → History
beginning base = record { base = base; records = [] }

-- A history begins where another one ended: with its clock, window, floor and next number; from the floor on each list of spans hides the
-- same moments, that of all objects being number 0; each version that can be read is the same; and so is the audit.
pub record GoesOn (ended begun : History) : Type 0 where
  pub clock : clock_of begun ≡ clock_of ended
  pub window : window_of begun ≡ window_of ended
  pub floor : floor_of begun ≡ floor_of ended
  pub next : next_of begun ≡ next_of ended
  pub hidden : (list t : ℕ) → is_covered (floor_of ended) (spans_of (state_of begun)) list t ≡ is_covered (floor_of ended) (spans_of (state_of ended)) list t
  pub versions : (o t : ℕ) → IsVisible (state_of ended) o t → version_of (state_of begun) o t ≡ version_of (state_of ended) o t
  pub audit : audit_of (state_of begun) ≡ audit_of (state_of ended)
