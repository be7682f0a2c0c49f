-- Where the drive of a session has come to.
use Rattle.std.specs.Prelude.{◌≡◌, ◌-◌, ◌^◌, ℕ, List, length, max, min}
use Rattle.s4_types.specs.History.{Base}
use Rattle.s4_types.specs.declared.requests.Request.{Request}
use Rattle.s4_types.specs.declared.replies.Reply.{Reply}
use Rattle.server.specs.Attending.{SeatFields, SeatSteps}

-- what contracts see of a session of a service: the session beside others, and the greatest clock that its drive had with one of its steps
pub record ServedFields : Type 0 where
  pub seat : SeatFields
  pub reached : ℕ

-- a step of a session beside others, whose clock has been reached after it
pub record ServedSteps (base : Base) (reserve : ℕ) (moments : List ℕ → Type 0) (old : ServedFields) (request : Request) (given : ℕ) (reply : Reply) (new : ServedFields) : Type 0 where
  pub step : SeatSteps base reserve moments old.seat request given reply new.seat
  pub reached : new.reached ≡ max old.reached new.seat.clock

-- with the session's last step this many changes were accepted in the drive's history, by a count that stops at its last number: the
-- session has seen all of them; and no step of the session was at a later clock
abbrev pub IsSeatAt : ServedFields → ℕ → ℕ → Type 0
IsSeatAt served number clock = (number ≡ min (length served.seat.session.told.seen) (2 ^ 64 - 1)) × (clock ≡ served.reached)
