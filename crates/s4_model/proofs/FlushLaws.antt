-- A flush hides its span and leaves the rest.
use Rattle.std.proofs.Common.{◌≡◌, ℕ, ◌<◌, ◌&&◌, ◌||◌, ◌==◌, Bool, true, false, leb, [], ◌∷◌, ◌++◌, Some, refl, ap, sym, ◌∙◌, subst, arith}
use Rattle.std.proofs.lemmas.List.Folds.{list_any-append}
use Rattle.std.specs.List.{list_any, cons_option}
use Rattle.s4_types.specs.History.{History, Took}
use Rattle.s4_types.specs.declared.changes.Accepted.{Accepted}
use Rattle.s4_types.specs.declared.changes.Change.TheVariants as change
use Rattle.s4_types.specs.declared.replies.Reply.{Reply}
use Rattle.s4_types.specs.declared.requests.Role.{Role}
use Rattle.s4_types.specs.declared.requests.Request.{Request}
use Rattle.s4_types.specs.declared.requests.Request.TheVariants.{Control}
use Rattle.s4_types.specs.declared.requests.AdminRequest.TheVariants.{Flush, FlushO}
use Rattle.s4_types.specs.declared.spans.Span.{Span}
use Rattle.s4_model.specs.Effect.{is_change_of}
use Rattle.s4_model.specs.State.{State, state_of, grown, took}
use Rattle.s4_model.specs.Visible.{is_hidden, hides, spans_of, span_by}
use Rattle.s4_model.specs.Step.{Step}
use Rattle.s4_model.specs.Sound.{IsSound}
use Rattle.s4_model.specs.Laws.{LeavesVersions}
use Rattle.s4_model.proofs.StateLemmas.{state_of-took}
use Rattle.s4_model.proofs.OutcomeLemmas.{IsTaken, taken_of}
use Rattle.s4_model.proofs.GrantedLemmas.{granted_object_is_no_zero, asked_change}
use Rattle.s4_model.proofs.SoundLemmas.{IsSound-took, moment_is_later, spans_of-took}
use Rattle.s4_model.proofs.VersionLemmas.{version_of-other, version_of-settled}
use Rattle.s4_model.proofs.ClockLaws.{clock_is_not_hidden}

or_no_more : (a b : Bool) → (a || (b || false)) ≡ (a || b)
or_no_more true b = refl
or_no_more false true = refl
or_no_more false false = refl

-- what is hidden after a change that hides a span: what was, and what the span hides
is_hidden-took : (s : State) (a : Accepted) (span : Span) (o t : ℕ) → span_by a.change ≡ Some span → is_hidden (took s a) o t ≡ (is_hidden s o t || hides o t span)
is_hidden-took s a span o t e =
    ap (list_any (hides o t)) (spans_of-took s a ∙ ap (λ more. spans_of s ++ cons_option more []) e)
    ∙ list_any-append (hides o t) (spans_of s) (span ∷ [])
    ∙ or_no_more (is_hidden s o t) (hides o t span)

LeavesVersions-took : (s : State) (a : Accepted) → IsSound s → IsSound (took s a) → s.clock < a.moment → ((o : ℕ) → is_change_of o a.change ≡ false) → LeavesVersions s (took s a)
LeavesVersions-took s a sound after later other = record {
  versions = λ o t. version_of-other s a o t (other o);
  current = λ o. version_of-other s a o a.moment (other o) ∙ version_of-settled s o a.moment sound.stamped (omega arith);
  shown = λ o. clock_is_not_hidden (took s a) o after;
}

LeavesVersions-step : (h : History) (role : Role) (request : Request) (now : ℕ) (reply : Reply) (a : Accepted) → IsSound (state_of h) → Step h role request now reply (grown h (Took a)) → ((o : ℕ) → is_change_of o a.change ≡ false) → LeavesVersions (state_of h) (state_of (grown h (Took a)))
LeavesVersions-step h role request now reply a sound step other =
    let taken : IsTaken (state_of h) role request now reply a = taken_of step in
    subst (LeavesVersions (state_of h)) (sym (state_of-took h a))
    (LeavesVersions-took (state_of h) a sound (IsSound-took (state_of h) role request now reply a sound taken) (moment_is_later (state_of h) role request now reply a taken) other)

pub flush_hides : (h : History) (role : Role) (first last now : ℕ) (reply : Reply) (a : Accepted) → IsSound (state_of h) → Step h role (Control (Flush first last)) now reply (grown h (Took a)) → ((o t : ℕ) → is_hidden (state_of (grown h (Took a))) o t ≡ (is_hidden (state_of h) o t || (leb first t && leb t last))) × LeavesVersions (state_of h) (state_of (grown h (Took a)))
flush_hides h role first last now reply a sound step =
    let taken : IsTaken (state_of h) role (Control (Flush first last)) now reply a = taken_of step in (
      λ o t. ap (λ k. is_hidden k o t) (state_of-took h a) ∙ is_hidden-took (state_of h) a (record { object = 0; first = first; last = last }) o t (asked_change (λ c. span_by c ≡ Some (record { object = 0; first = first; last = last })) (change.Flush first last) a.change taken.asked_for refl),
      LeavesVersions-step h role (Control (Flush first last)) now reply a sound step (λ o. asked_change (λ c. is_change_of o c ≡ false) (change.Flush first last) a.change taken.asked_for refl),
    )

pub flush_of_object_hides : (h : History) (role : Role) (object first last now : ℕ) (reply : Reply) (a : Accepted) → IsSound (state_of h) → Step h role (Control (FlushO object first last)) now reply (grown h (Took a)) → ((o t : ℕ) → is_hidden (state_of (grown h (Took a))) o t ≡ (is_hidden (state_of h) o t || (object == o && (leb first t && leb t last)))) × LeavesVersions (state_of h) (state_of (grown h (Took a)))
flush_of_object_hides h role object first last now reply a sound step =
    let taken : IsTaken (state_of h) role (Control (FlushO object first last)) now reply a = taken_of step in (
      λ o t. ap (λ k. is_hidden k o t) (state_of-took h a)
          ∙ is_hidden-took (state_of h) a (record { object = object; first = first; last = last }) o t (asked_change (λ c. span_by c ≡ Some (record { object = object; first = first; last = last })) (change.FlushO object first last) a.change taken.asked_for refl)
          ∙ ap (λ zero. is_hidden (state_of h) o t || ((zero || object == o) && (leb first t && leb t last))) (granted_object_is_no_zero (state_of h) role object first last taken.granted),
      LeavesVersions-step h role (Control (FlushO object first last)) now reply a sound step (λ o. asked_change (λ c. is_change_of o c ≡ false) (change.FlushO object first last) a.change taken.asked_for refl),
    )
