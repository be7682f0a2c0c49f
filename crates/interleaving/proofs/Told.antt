-- What calls of the drive tell of an actor, whose session they were given.
use Rattle.std.proofs.Common.{◌≡◌, ℕ, Option, Result, IfOk, refl, ap}
use Rattle.std.specs.Prelude.{MatchResult}
use Rattle.s4_types.specs.Sizes.{ReplyFits}
use Rattle.s4_types.specs.declared.requests.Request.{Request}
use Rattle.s4_types.specs.declared.requests.Request.TheVariants.{Query}
use Rattle.s4_types.specs.declared.requests.Question.TheVariants.{Read}
use Rattle.s4_types.specs.declared.replies.Reply.{Reply}
use Rattle.s4_types.specs.declared.refusals.Refusal.{Refusal}
use Rattle.s4_model.specs.Step.{Step}
use Rattle.segment_word.specs.AcceptViews.{with_moment, caught_up}
use Rattle.segment_word.specs.AcceptRule.{FitsLedger}
use Rattle.time_read.specs.Plans.{PlanFields}
use Rattle.drive.specs.Fields.{DriveFields, SessionFields, history_of, state_in, store_of}
use Rattle.drive.specs.Refusing.{RefusesExactly, LacksMemoryInPlace}
use Rattle.drive.specs.Answering.{IsPlanOf, Leaves, reply_planned, told_after, owners_after}
use Rattle.interleaving.specs.Actors.{ActorFields}
use Rattle.interleaving.specs.Moving.{Move, Moving, IsMoveOf}
use Rattle.interleaving.specs.Acting.{Requests, Resolves, Plans, IsUnplanned, answer_to, plan_after, moving_after}
use Rattle.interleaving.specs.declared.answers.Answer.TheVariants as answer

-- an actor of these parts
abbrev pub actor_of : SessionFields → Option PlanFields → Moving → ActorFields
actor_of session plan moving = record { session = session; plan = plan; moving = moving }

-- what a request of a session tells of the actor that has it
pub requested : (request : Request) (now : ℕ) (d later : DriveFields) (before after : SessionFields) (plan : Option PlanFields) (moving : Moving) (reply : Reply)
    → Step (history_of d) before.role request now reply (history_of later)
    → RefusesExactly d before.role request now reply later
    → LacksMemoryInPlace d before.role request now reply
    → Leaves (store_of d) (state_in d) request now reply (store_of later)
    → ReplyFits reply
    → after ≡ record before { told = told_after reply later.ledger before.told }
    → later.ledger.owners ≡ owners_after reply before.told.seat d.ledger.owners
    → FitsLedger d.ledger before.told
    → FitsLedger later.ledger after.told
    → Requests request now d (actor_of before plan moving) (answer.Reply reply) later (actor_of after plan moving)
requested request now d later before after plan moving reply step refused memory stored fits session owners true_before true_after = record {
  reply = reply;
  answer = refl;
  step = step;
  refused = refused;
  memory = memory;
  stored = stored;
  fits = fits;
  owners = owners;
  before = true_before;
  after = true_after;
  actor = ap (λ (s : SessionFields). actor_of s plan moving) session;
}

-- what a plan of a read tells of the actor that has its session
pub resolved : (object offset len : ℕ) (at : Option ℕ) (now : ℕ) (d later : DriveFields) (before after : SessionFields) (plan : Option PlanFields) (moving : Moving) (planned : Result PlanFields Refusal)
    → Step (history_of d) before.role (Query (Read object offset len at)) now (reply_planned planned) (history_of later)
    → RefusesExactly d before.role (Query (Read object offset len at)) now (reply_planned planned) later
    → LacksMemoryInPlace d before.role (Query (Read object offset len at)) now (reply_planned planned)
    → IfOk planned (IsPlanOf later object offset len at)
    → ReplyFits (reply_planned planned)
    → later.ledger ≡ with_moment d.ledger now
    → store_of later ≡ store_of d
    → after ≡ record before { told = caught_up later.ledger before.told }
    → FitsLedger d.ledger before.told
    → FitsLedger later.ledger after.told
    → Resolves object offset len at now d (actor_of before plan moving) (answer_to planned) later (actor_of after (plan_after planned plan) moving)
resolved object offset len at now d later before after plan moving planned step refused memory is fits ledger store session true_before true_after = record {
  planned = planned;
  answer = refl;
  step = step;
  refused = refused;
  memory = memory;
  plan = is;
  fits = fits;
  ledger = ledger;
  store = store;
  before = true_before;
  after = true_after;
  actor = ap (λ (s : SessionFields). actor_of s (plan_after planned plan) moving) session;
}

-- what a plan of a move tells of the actor that has its session
pub planned : (frame object : ℕ) (d later : DriveFields) (before after : SessionFields) (plan : Option PlanFields) (moving : Moving) (move : Result Move Refusal)
    → MatchResult move (IsMoveOf d frame object) (IsUnplanned d object)
    → after ≡ before
    → later.ledger ≡ d.ledger
    → store_of later ≡ store_of d
    → Plans frame object d (actor_of before plan moving) (answer_to move) later (actor_of after plan (moving_after move moving))
planned frame object d later before after plan moving move told session ledger store = record {
  planned = move;
  answer = refl;
  told = told;
  ledger = ledger;
  store = store;
  actor = ap (λ (s : SessionFields). actor_of s plan (moving_after move moving)) session;
}
