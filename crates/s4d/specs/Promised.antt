-- What `run` does, in the words of the model: what each session was answered, that nothing else was asked, and what the image tells
-- afterwards.
use Rattle.std.specs.Prelude.{◌≡◌, ◌↔◌, ◌<◌, ◌+◌, ℕ, All, Bool, IsTrue, List, [], ◌∷◌, Option, ⊤, count_by, length, sum_by}
use Rattle.std.specs.Io.KnownBytes.{Keeps}
use Rattle.std.specs.List.{AllZip}
use mathlib.Core.List.{IsPrefix}
use Rattle.s4_types.specs.History.{Base, History, accepted}
use Rattle.s4_types.specs.declared.requests.Request.{Request}
use Rattle.s4_types.specs.declared.requests.Role.{Role}
use Rattle.s4_types.specs.declared.replies.Reply.{Reply}
use Rattle.s4_types.specs.declared.refusals.Refusal.TheVariants.{Busy}
use Rattle.s4_model.specs.Exchanges.{Exchange, Leads}
use Rattle.s4_model.specs.Promise.{Session, StepsBeside, beginning, GoesOn}
use Rattle.drive.specs.Answering.{is_acceptance}
use Rattle.serving.specs.Session.{Serves}
use Rattle.serving.specs.declared.ends.ServeEnd.{ServeEnd}
use Rattle.serving.specs.declared.ends.ServeEnd.TheVariants.{Ended}
use Rattle.server.specs.Attending.{is_request}
use Rattle.server.specs.Drawing.{ClockFields, DrawsNothing, moment_at}
use Rattle.server.specs.declared.clocks.Undrawn.{Undrawn}
use Rattle.server.specs.declared.running.Outcome.{Outcome}
use Rattle.server.specs.declared.running.Outcome.TheVariants.{Waiting, Served, Refused}
use Rattle.verifier.specs.Opened.{TellsBase}
use Rattle.s4d_command.specs.declared.Run.{Run}
use Rattle.s4d_command.specs.declared.sessions.RunSession.{RunSession}
use Rattle.image_commands.specs.Files.{AreKnown}
use Rattle.s4d.specs.Running.{Came, HasFiles}

-- a session, and how many requests it was answered
pub record Counted : Type 0 where
  pub session : Session
  pub requests : ℕ

-- A request of a session is answered by a step of the model beside others, at a moment of the clock that all sessions share: one after the
-- moments of at least as many requests as the session was answered. Which one it is rests on the others; the moment that the session is given
-- by itself says nothing.
pub record AnswersBeside (base : Base) (clock : ClockFields) (old : Counted) (request : Request) (given : ℕ) (reply : Reply) (new : Counted) : Type 0 where
  pub count : ℕ
  pub late : old.requests < count
  pub step : StepsBeside base old.session request (moment_at clock count) reply new.session
  pub counted : new.requests ≡ old.requests + 1

-- A session of a role is served until this end: its requests are answered in order, this many of them, and this many changes of it are
-- accepted; and the accepted changes that it has seen at the end begin those of the history that is left.
pub record IsServedBeside (base : Base) (left : History) (clock : ClockFields) (role : Role) (end : ServeEnd) (requests changes : ℕ) (input output input' output' : Option (List ℕ)) : Type 0 where
  pub first : Session
  pub role_is : first.role ≡ role
  pub last : Session
  pub before : Undrawn
  pub after : Undrawn
  pub serves : Serves (AnswersBeside base clock) DrawsNothing [] end (record { session = first; requests = 0 }) before input output (record { session = last; requests = requests }) after input' output'
  pub asked : requests ≡ count_by is_request serves.finishes.items
  pub taken : changes ≡ count_by is_acceptance serves.finishes.replies
  pub seen : IsPrefix last.seen (accepted left)

-- what became of a session, by its outcome: it was served, or there was no seat for it, and nothing was read, written or asked
abbrev pub ComesTo : Base → History → ClockFields → Role → Outcome → (requests changes : ℕ) → (input output input' output' : Option (List ℕ)) → Type 0
ComesTo base left clock role Waiting requests changes input output input' output' = ⊥
ComesTo base left clock role (Served end) requests changes input output input' output' = IsServedBeside base left clock role end requests changes input output input' output'
ComesTo base left clock role (Refused refusal) requests changes input output input' output' = (refusal ≡ Busy) × (requests ≡ 0) × (changes ≡ 0) × (input' ≡ input) × (output' ≡ output)

-- So it did of a session that the line asks for, which read what was known of its file before. Where the paths of outputs lead to what was
-- written, its file has that.
pub record IsSessionOf (base : Base) (left : History) (clock : ClockFields) (opens : List ℕ → Option (List ℕ) → Type 0) (files files' : List ℕ → Option (List ℕ)) (there : Bool) (asked : RunSession) (came : Came) : Type 0 where
  pub input : Option (List ℕ)
  pub output : Option (List ℕ)
  pub first : HasFiles opens files asked input output
  pub unread : Option (List ℕ)
  pub written : Option (List ℕ)
  pub comes_to : ComesTo base left clock asked.role came.outcome came.requests came.changes input output unread written
  pub left_in : IsTrue there → Keeps written (files' asked.output.now)

-- exchanges have moments of a clock, one after another, where k were had before
abbrev pub HaveMoments : ClockFields → (k : ℕ) → List Exchange → Type 0
HaveMoments clock k [] = ⊤
HaveMoments clock k (e ∷ exchanges) = (e.now ≡ moment_at clock (k + 1)) × HaveMoments clock (k + 1) exchanges

-- What `run` does. The image had a base, and each session of the line came to what is said above. All came to the end of their input, with
-- the paths of their outputs leading to what was written, exactly where that is answered. The history that is left is what exchanges have
-- made of the base, one after another and each at the next moment of the clock: as many as requests were answered to these sessions, with
-- as many accepted changes as they have. A history that begins with what the image has afterwards goes on where that one ended.
pub record KeepsItsPromise (opens : List ℕ → Option (List ℕ) → Type 0) (run : Run) (files files' : List ℕ → Option (List ℕ)) (ended : Bool) : Type 0 where
  pub bytes : List ℕ
  pub read : AreKnown (files run.image.now) bytes
  pub base : Base
  pub told : TellsBase bytes base
  pub left : History
  pub came : List Came
  pub there : Bool
  pub each : AllZip (IsSessionOf base left (record { start = base.clock; tick = run.tick }) opens files files' there) run.sessions.items came
  pub ends : IsTrue ended ↔ (IsTrue there × All (λ c. c.outcome ≡ Served Ended) came)
  pub exchanges : List Exchange
  pub made : Leads (beginning base) exchanges left
  pub moments : HaveMoments (record { start = base.clock; tick = run.tick }) 0 exchanges
  pub requests : length exchanges ≡ sum_by (λ c. c.requests) came
  pub changes : length (accepted left) ≡ sum_by (λ c. c.changes) came
  pub saved : List ℕ
  pub kept : AreKnown (files' run.image.now) saved
  pub goes_on : (next : Base) → TellsBase saved next → GoesOn left (beginning next)
