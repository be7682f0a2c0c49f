-- What becomes of a session that is served beside others.
use Rattle.std.specs.Prelude.{◌≡◌, ℕ, ◌+◌, ◌<◌, Bool, true, false, List, [], length, slice_index_or, count_by, sum_by, Option, None, Some}
use Rattle.s4_types.specs.History.{Base}
use Rattle.s4_types.specs.declared.requests.Role.{Role}
use Rattle.s4_types.specs.declared.requests.Request.{Request}
use Rattle.s4_types.specs.declared.replies.Reply.{Reply}
use Rattle.s4_types.specs.declared.refusals.Refusal.TheVariants.{Busy}
use Rattle.rpc.specs.declared.items.Item.{Item}
use Rattle.rpc.specs.declared.items.Item.TheVariants.{Whole, BadFrame}
use Rattle.s4_model.specs.State.{state_of}
use Rattle.segment_word.specs.AcceptViews.{Ledger, caught_up}
use Rattle.segment_word.specs.AcceptRule.{FitsLedger}
use Rattle.serving.specs.Session.{Serves, reading_failures, writing_failures}
use Rattle.serving.specs.declared.ends.ServeEnd.{ServeEnd}
use Rattle.drive.specs.Fields.{DriveFields, SessionFields}
use Rattle.server.specs.Drawing.{DrawsNothing}
use Rattle.server.specs.Accounts.{PartFields, one_part, requests_in, changes_in}
use Rattle.server.specs.Sequence.{HasCome}
use Rattle.server.specs.Sharing.{SharedAnswer, IsFresh}
use Rattle.server.specs.Acknowledged.{AreAcknowledged}
use Rattle.server.specs.declared.clocks.Undrawn.{Undrawn}
use Rattle.server.specs.declared.running.Client.{Client}
use Rattle.server.specs.declared.running.Outcome.{Outcome}
use Rattle.server.specs.declared.running.Outcome.TheVariants.{Waiting, Served, Refused}

-- what contracts see of a session beside others: the session, how many requests it was answered, and the clock of the history that it has
-- seen all accepted changes of
pub record SeatFields : Type 0 where
  pub session : SessionFields
  pub requests : ℕ
  pub clock : ℕ

-- a session of a role that was just had, and is answered nothing yet
pub record IsSeated (base : Base) (role : Role) (seat : SeatFields) : Type 0 where
  pub fresh : IsFresh base role seat.session
  pub clock : seat.clock ≡ (state_of fresh.ledger.history).clock
  pub requests : seat.requests ≡ 0

-- a request of it is answered, and counts as one
pub record SeatAnswer (base : Base) (reserve : ℕ) (moments : List ℕ → Type 0) (old : SeatFields) (request : Request) (reply : Reply) (new : SeatFields) : Type 0 where
  pub answer : SharedAnswer base reserve moments old.requests old.session request reply new.session new.clock
  pub counted : new.requests ≡ old.requests + 1

-- the same as a step of `serve`, which is given no moment that says anything
abbrev pub SeatSteps : Base → ℕ → (List ℕ → Type 0) → SeatFields → Request → ℕ → Reply → SeatFields → Type 0
SeatSteps base reserve moments old request given reply new = SeatAnswer base reserve moments old request reply new

-- whether an item of a stream is a request
abbrev pub is_request : Item Request → Bool
is_request (Whole request) = true
is_request BadFrame = false

-- A session of a role that was just had is served until this end, at which it is the last one: its requests are answered by steps of
-- the shared drive, at moments of the shared clock. Its own changes are those that its replies acknowledge. On its part of the books
-- are the requests that it took up, and its own changes.
pub record IsServed (base : Base) (reserve : ℕ) (moments : List ℕ → Type 0) (role : Role) (end : ServeEnd) (last : SessionFields) (part : PartFields) (input output input' output' : Option (List ℕ)) : Type 0 where
  pub first : SessionFields
  pub opened : ℕ
  pub seated : IsSeated base role (record { session = first; requests = 0; clock = opened })
  pub closed : ℕ
  pub before : Undrawn
  pub after : Undrawn
  pub serves : Serves (SeatSteps base reserve moments) DrawsNothing [] end (record { session = first; requests = 0; clock = opened }) before input output (record { session = last; requests = part.requests; clock = closed }) after input' output'
  pub own : AreAcknowledged last.told.seen serves.finishes.items serves.finishes.replies last.told.mine
  pub one : part.parts ≡ 1
  pub asked : part.requests ≡ count_by is_request serves.finishes.items
  pub accepted : part.changes ≡ length last.told.mine

-- What became of a session, by its outcome, by the session that is left of it and by its part of the books: it was served, or the drive
-- had no seat for it and nothing was read, written or asked.
abbrev pub IsAttended : Base → ℕ → (List ℕ → Type 0) → Role → Outcome → Option SessionFields → Option PartFields → Option (List ℕ) → Option (List ℕ) → Option (List ℕ) → Option (List ℕ) → Type 0
IsAttended base reserve moments role Waiting session part input output input' output' = ⊥
IsAttended base reserve moments role (Served end) None part input output input' output' = ⊥
IsAttended base reserve moments role (Served end) (Some last) None input output input' output' = ⊥
IsAttended base reserve moments role (Served end) (Some last) (Some part) input output input' output' = IsServed base reserve moments role end last part input output input' output'
IsAttended base reserve moments role (Refused refusal) session part input output input' output' = (refusal ≡ Busy) × (session ≡ None) × (part ≡ Some one_part) × (input' ≡ input) × (output' ≡ output)

-- What is left of a session, if anything is, meets the drive that all sessions leave: its history begins with all that the session had
-- seen, and has the session's own changes at their numbers.
abbrev pub Settles : Ledger → Option SessionFields → Option SessionFields → Type 0
Settles ledger None new = new ≡ None
Settles ledger (Some old) new = FitsLedger ledger old.told × (new ≡ Some (record old { told = caught_up ledger old.told }))

-- A client's session, where there is one, meets the drive that all sessions leave. Nothing else about the client changes.
pub record HasSettled {J S W : Type 0} (ledger : Ledger) (before after : Client J S W) : Type 0 where
  pub session : Settles ledger before.session after.session
  pub rest : after ≡ record before { session = after.session }

-- a client with a part of the books on which nothing is counted yet
abbrev pub with_part : {J S W : Type 0} → Client J S W → Client J S W
with_part client = record client { part = Some one_part }

-- a client without its part
abbrev pub without_part : {J S W : Type 0} → Client J S W → Client J S W
without_part client = record client { part = None }

-- how often a stream failed in a session with this outcome
abbrev pub failures_in : (ServeEnd → ℕ) → Outcome → ℕ
failures_in count Waiting = 0
failures_in count (Served end) = count end
failures_in count (Refused refusal) = 0

-- What clients are before and after, over what is known of their streams: the bytes that a reader still gives, those that a writer
-- took, and how often each failed.
module _ {J S W : Type 0} (remaining : S → Option (List ℕ)) (passed : W → Option (List ℕ)) (reader_failures : S → ℕ) (writer_failures : W → ℕ) where
  -- a client's session was attended, in its role, and its streams failed as often as its outcome says
  pub record IsAttendedClient (base : Base) (reserve : ℕ) (moments : List ℕ → Type 0) (before after : Client J S W) : Type 0 where
    pub role : after.role ≡ before.role
    pub attended : IsAttended base reserve moments before.role after.outcome after.session after.part (remaining before.reader) (passed before.writer) (remaining after.reader) (passed after.writer)
    pub reading : reader_failures after.reader ≡ reader_failures before.reader + failures_in reading_failures after.outcome
    pub writing : writer_failures after.writer ≡ writer_failures before.writer + failures_in writing_failures after.outcome

  -- So each client was, and then its session met the drive that all of them leave. This drive is what the requests that are counted on
  -- their parts of the books have made of the one before.
  pub record AreServed (base : Base) (reserve : ℕ) (begins : DriveFields → Type 0) (moments : List ℕ → Type 0) (has_upkeep : Bool) (before after : List (Client J S W)) (drive : DriveFields) : Type 0 where
    pub served : List (Client J S W)
    pub count : length served ≡ length before
    pub each : (i : ℕ) (d : Client J S W) → i < length before → IsAttendedClient base reserve moments (slice_index_or before i d) (slice_index_or served i d)
    pub settled : (i : ℕ) (d : Client J S W) → i < length before → HasSettled drive.ledger (without_part (slice_index_or served i d)) (slice_index_or after i d)
    pub come : HasCome begins moments has_upkeep (sum_by (λ c. requests_in c.part) served) (sum_by (λ c. changes_in c.part) served) drive
