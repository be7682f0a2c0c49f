-- The clock and the floor never fall, and a change acts at its moment.
use Rattle.std.proofs.Common.{◌≡◌, ℕ, ◌+◌, ◌<◌, ◌≤◌, ◌||◌, ◌==◌, max, false, leb, List, [], ◌∷◌, refl, ap, sym, ◌∙◌, subst, arith}
use Rattle.std.proofs.lemmas.Bool.{and_right, lt-leb}
use Rattle.std.specs.List.{list_any, AllByRecursion}
use Rattle.s4_types.specs.History.{History, Took}
use Rattle.s4_types.specs.declared.changes.Accepted.{Accepted}
use Rattle.s4_types.specs.declared.replies.Reply.{Reply}
use Rattle.s4_types.specs.declared.requests.Role.{Role}
use Rattle.s4_types.specs.declared.requests.Request.{Request}
use Rattle.s4_types.specs.declared.spans.Span.{Span}
use Rattle.s4_model.specs.Numbers.{clock_of, floor_of}
use Rattle.s4_model.specs.State.{State, state_of, grown, took}
use Rattle.s4_model.specs.Visible.{is_hidden, hides, is_within, spans_of, IsVisible}
use Rattle.s4_model.specs.Step.{Step}
use Rattle.s4_model.specs.Sound.{EndsBefore, IsSound}
use Rattle.s4_model.specs.Laws.{ActsAtItsMoment}
use Rattle.s4_model.proofs.StateLemmas.{state_of-seen, state_of-took}
use Rattle.s4_model.proofs.OutcomeLemmas.{IsTaken, Outcome, OnlySaw, TookIt, outcome_of, taken_of}
use Rattle.s4_model.specs.Limits.{Fits}
use Rattle.s4_model.proofs.GrantedLemmas.{granted_fits}
use Rattle.s4_model.proofs.SoundLemmas.{moment_is_later}
use Rattle.s4_model.proofs.VersionLemmas.{version_of-earlier, version_of-other, version_of-taken, version_of-settled}

-- neither clock nor floor is lower in the later state
record Rises (s k : State) : Type 0 where
  clock : s.clock ≤ k.clock
  floor : s.floor ≤ k.floor

Rises-outcome : (h : History) (role : Role) (request : Request) (now : ℕ) (reply : Reply) (after : History) → Outcome h role request now reply after → Rises (state_of h) (state_of after)
Rises-outcome h role request now reply after (OnlySaw is answers) = subst (Rises (state_of h)) (sym (ap state_of is ∙ state_of-seen h now)) (record { clock = omega arith; floor = omega arith })
Rises-outcome h role request now reply after (TookIt a is taken) =
    let later : clock_of h < a.moment = moment_is_later (state_of h) role request now reply a taken in
    subst (Rises (state_of h)) (sym (ap state_of is ∙ state_of-took h a)) (record { clock = omega arith; floor = omega arith })

pub clock_never_falls : (h after : History) (role : Role) (request : Request) (now : ℕ) (reply : Reply) → Step h role request now reply after → clock_of h ≤ clock_of after
clock_never_falls h after role request now reply step = (Rises-outcome h role request now reply after (outcome_of step)).clock

pub floor_never_falls : (h after : History) (role : Role) (request : Request) (now : ℕ) (reply : Reply) → Step h role request now reply after → floor_of h ≤ floor_of after
floor_never_falls h after role request now reply step = (Rises-outcome h role request now reply after (outcome_of step)).floor

pub accepted_is_later : (h : History) (role : Role) (request : Request) (now : ℕ) (reply : Reply) (a : Accepted) → Step h role request now reply (grown h (Took a)) → (a.moment ≡ max now (clock_of h + 1)) × (clock_of (grown h (Took a)) ≡ a.moment)
accepted_is_later h role request now reply a step =
    let taken : IsTaken (state_of h) role request now reply a = taken_of step in
    let stamped : a.moment ≡ max now (clock_of h + 1) = taken.stamped in
    (stamped, ap (λ k. k.clock) (state_of-took h a))

hides_late : (o t : ℕ) (span : Span) → span.last < t → hides o t span ≡ false
hides_late o t span lt = and_right (span.object == 0 || span.object == o) (is_within span t) (and_right (leb span.first t) (leb t span.last) (lt-leb t span.last lt))

pub none_hides : (o t : ℕ) (spans : List Span) → AllByRecursion (EndsBefore t) spans → list_any (hides o t) spans ≡ false
none_hides o t [] past = refl
none_hides o t (span ∷ spans) past = ap (λ b. b || list_any (hides o t) spans) (hides_late o t span past.0) ∙ none_hides o t spans past.1

pub clock_is_not_hidden : (s : State) (o : ℕ) → IsSound s → is_hidden s o s.clock ≡ false
clock_is_not_hidden s o sound = none_hides o s.clock (spans_of s) sound.past

pub clock_is_visible : (h : History) (o : ℕ) → IsSound (state_of h) → IsVisible (state_of h) o (clock_of h)
clock_is_visible h o sound = record { kept = sound.floor_reached; reached = omega arith; shown = clock_is_not_hidden (state_of h) o sound }

pub ActsAtItsMoment-took : (s : State) (a : Accepted) → IsSound s → s.clock < a.moment → ActsAtItsMoment s (took s a) a
ActsAtItsMoment-took s a sound later = record {
  earlier = λ o t lt. version_of-earlier s a o t lt;
  changed = λ o is. version_of-taken s a o sound.stamped later is;
  others = λ o other. version_of-other s a o a.moment other ∙ version_of-settled s o a.moment sound.stamped (omega arith);
}

pub change_acts : (h : History) (role : Role) (request : Request) (now : ℕ) (reply : Reply) (a : Accepted) → IsSound (state_of h) → Step h role request now reply (grown h (Took a)) → ActsAtItsMoment (state_of h) (state_of (grown h (Took a))) a
change_acts h role request now reply a sound step =
    subst (λ k. ActsAtItsMoment (state_of h) k a) (sym (state_of-took h a)) (ActsAtItsMoment-took (state_of h) a sound (moment_is_later (state_of h) role request now reply a (taken_of step)))

pub accepted_keeps_limits : (h : History) (role : Role) (request : Request) (now : ℕ) (reply : Reply) (a : Accepted) → Step h role request now reply (grown h (Took a)) → Fits a.change
accepted_keeps_limits h role request now reply a step =
    let taken : IsTaken (state_of h) role request now reply a = taken_of step in
    granted_fits (state_of h) role request a.change taken.granted taken.asked_for
