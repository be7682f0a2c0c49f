-- What follows of a session that shares its drive.
use Rattle.std.specs.Prelude.{◌≡◌, ◌⊎◌, ◌≤◌, ◌<◌, ◌+◌, ◌*◌, ℕ, List, length, count_by}
use Rattle.s4_types.specs.History.{Base, accepted}
use Rattle.s4_types.specs.declared.requests.Request.{Request}
use Rattle.s4_types.specs.declared.requests.Request.TheVariants.{Control}
use Rattle.s4_types.specs.declared.requests.AdminRequest.TheVariants.{SetWindow}
use Rattle.s4_types.specs.declared.requests.Role.TheVariants.{Client}
use Rattle.s4_types.specs.declared.replies.Reply.{Reply}
use Rattle.s4_types.specs.declared.replies.Reply.TheVariants.{Refused}
use Rattle.s4_types.specs.declared.refusals.Refusal.{Refusal}
use Rattle.s4_types.specs.declared.refusals.Refusal.TheVariants.{NotAdmin, NoMemory, ClockEnd}
use Rattle.drive.specs.Fields.{DriveFields, SessionFields, history_of, state_in}
use Rattle.server.specs.Drawing.{AreTicks, ClockFields, moment_at}
use Rattle.server.specs.Sequence.{Event, Makes, is_answer, is_accepted, moments_of}
use Rattle.server.specs.Sharing.{SharedAnswer, SharedStep}

-- A window is refused to a client, and else at the clock's end or for lack of memory alone.
abbrev pub AWindowIsRefusedByRoleClockOrMemory : Type 0
AWindowIsRefusedByRoleClockOrMemory = (base : Base) (reserve : ℕ) (old new : SessionFields) (window now : ℕ) (refusal : Refusal) → SharedStep base reserve old (Control (SetWindow window)) now (Refused refusal) new
    → ((old.role ≡ Client) × (refusal ≡ NotAdmin)) ⊎ ((refusal ≡ ClockEnd) ⊎ (refusal ≡ NoMemory))

-- The last drive that events make of a first one has the accepted changes of that, as many more as were accepted in the events, and no
-- others.
abbrev pub ARunAddsItsChangesAlone : Type 0
ARunAddsItsChangesAlone = (first last : DriveFields) (events : List Event) → Makes first events last
    → length (accepted (history_of last)) ≡ length (accepted (history_of first)) + count_by is_accepted events

-- Where the moments are those of a clock that ticks, and the first drive's clock isn't after its start, the last one's is at most a tick for
-- each answer after that, and a moment for each change that was accepted.
abbrev pub ARunsClockGoesByItsRequests : Type 0
ARunsClockGoesByItsRequests = (clock : ClockFields) (first last : DriveFields) (events : List Event) → Makes first events last
    → AreTicks clock (moments_of events) → (state_in first).clock ≤ clock.start → (state_in last).clock ≤ clock.start + count_by is_answer events * clock.tick + count_by is_accepted events

-- Where the moments are those of a clock that ticks, a request is answered at the moment of that clock which its place among all requests of
-- the run gives: after at least as many as its session was answered before.
abbrev pub ATickGivesEachMoment : Type 0
ATickGivesEachMoment = (base : Base) (reserve : ℕ) (clock : ClockFields) (own : ℕ) (old new : SessionFields) (request : Request) (reply : Reply) (came_to : ℕ)
    → (answer : SharedAnswer base reserve (AreTicks clock) own old request reply new came_to) → (own < length answer.before + 1) × (answer.now ≡ moment_at clock (length answer.before + 1))
