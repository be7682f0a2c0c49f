-- That all replies which a session has written are of steps that are kept.
use Rattle.std.specs.Prelude.{◌≡◌, ℕ, Bool, true, false, List, [], ◌∷◌, ◌++◌, Option, None, Some}
use Rattle.std.specs.List.{AllByRecursion}
use Rattle.s4_types.specs.History.{Base}
use Rattle.s4_types.specs.declared.requests.Request.{Request}
use Rattle.s4_types.specs.declared.replies.Reply.{Reply}
use Rattle.group_commit.specs.Commit.{Covers}
use Rattle.server.specs.Sharing.{number_seen}
use Rattle.s4serve.specs.Seats.{ServedFields, ServedSteps}

-- a session of a service, and what it was after each of its steps until now, in their order
pub record TracedFields : Type 0 where
  pub now : ServedFields
  pub steps : List ServedFields

-- a session that has taken no step yet
abbrev pub untraced : ServedFields → TracedFields
untraced now = record { now = now; steps = [] }

-- a step of such a session, which is its last one then
pub record TracedSteps (base : Base) (reserve : ℕ) (moments : List ℕ → Type 0) (old : TracedFields) (request : Request) (given : ℕ) (reply : Reply) (new : TracedFields) : Type 0 where
  pub step : ServedSteps base reserve moments old.now request given reply new.now
  pub noted : new.steps ≡ old.steps ++ new.now ∷ []

-- a receipt covers a step after which the session was this: all changes that it had seen then, and the clock of their history
abbrev pub CoversStep : {T : Type 0} → (number_of reach_of : T → ℕ) → T → ServedFields → Type 0
CoversStep number_of reach_of receipt served = Covers number_of reach_of receipt (number_seen served.seat.session) served.seat.clock

-- Where a wait ended well there is a receipt, which covers each step that the session has taken until then. Else the one that was there stays.
abbrev pub HasWaitedForAll : {T : Type 0} → (number_of reach_of : T → ℕ) → (is_kept : Bool) → TracedFields → (old new : Option T) → Type 0
HasWaitedForAll number_of reach_of true traced old None = ⊥
HasWaitedForAll number_of reach_of true traced old (Some receipt) = AllByRecursion (CoversStep number_of reach_of receipt) traced.steps
HasWaitedForAll number_of reach_of false traced old new = new ≡ old
