-- What is left to refuse of a change of an object that is there, within the limits.
use Rattle.std.proofs.Common.{◌≡◌, ℕ, Option, inl, inr, refl, ap, subst}
use Rattle.s4_types.specs.History.{History}
use Rattle.s4_types.specs.declared.requests.Role.{Role}
use Rattle.s4_types.specs.declared.requests.Request.{Request}
use Rattle.s4_types.specs.declared.requests.Request.TheVariants.{Update, Query, Control}
use Rattle.s4_types.specs.declared.refusals.Refusal.{Refusal}
use Rattle.s4_types.specs.declared.replies.Reply.{Reply}
use Rattle.s4_types.specs.declared.replies.Reply.TheVariants.{Refused}
use Rattle.s4_model.specs.State.{State, state_of}
use Rattle.s4_model.specs.Refusals.{first_refusal}
use Rattle.s4_model.specs.Step.{Step, Refuses, Serves, MayRefuse, AsFirst, ForMemory, AsOpen, judged}
use Rattle.s4_model.specs.Laws.{is_of_want}
use Rattle.s4_model.proofs.TotalLaws.{open_lacks_resource}
use Rattle.history_restore.specs.Asking.{IsGiven}
use Rattle.history_restore.proofs.Stepping.{IsOfVersions, IsNoRead, no_read, accepts_none}

-- ---- what a step refuses

-- a change is judged by the history as it was
pub judged_as_was : (h : History) (request : Request) (now : ℕ) → IsOfVersions request → judged h request now ≡ state_of h
judged_as_was h (Update update) now of = refl
judged_as_was h (Query question) now of = absurd of
judged_as_was h (Control control) now of = refl

may_is_given : (first : Option Refusal) (request : Request) (e : Refusal) → MayRefuse first request e → IsGiven first e
may_is_given first request e (AsFirst is) = inr is
may_is_given first request e (ForMemory is wants) = inl (ap is_of_want is)
may_is_given first request e (AsOpen none is) = inl (open_lacks_resource e is)

-- what a step of a request that is judged so is refused for
pub given_as_was : (h after : History) (role : Role) (request : Request) (now : ℕ) (reply : Reply) (e : Refusal) → judged h request now ≡ state_of h → reply ≡ Refused e → Step h role request now reply after → IsNoRead request
    → IsGiven (first_refusal (state_of h) role request) e
given_as_was h after role request now reply e as_was refused (Refuses refusal is may after_is) unread =
    let same : refusal ≡ e = cc in
    subst (λ (s : State). IsGiven (first_refusal s role request) e) as_was
    (subst (IsGiven (first_refusal (judged h request now) role request)) same (may_is_given (first_refusal (judged h request now) role request) request refusal may))
given_as_was h after role request now reply e as_was refused (Serves r free accepts after_is) unread = absurd (accepts_none h request now reply r e unread refused accepts)

pub is_given : (h after : History) (role : Role) (request : Request) (now : ℕ) (reply : Reply) (e : Refusal) → IsOfVersions request → reply ≡ Refused e → Step h role request now reply after → IsGiven (first_refusal (state_of h) role request) e
is_given h after role request now reply e of refused step = given_as_was h after role request now reply e (judged_as_was h request now of) refused step (no_read request of)
