-- What setting the window leaves.
use Rattle.std.proofs.Common.{◌≡◌, ◌∙◌, ◌+◌, ◌-◌, ◌<◌, ◌≤◌, ℕ, max, Bool, true, false, None, Some, refl, ap, sym, subst, arith}
use Rattle.std.specs.List.{list_any}
use Rattle.std.specs.Prelude.{MatchBool}
use Rattle.std.proofs.lemmas.Option.{none-some, same_Some}
use Rattle.std.proofs.lemmas.Bool.{ltb-false}
use Rattle.s4_types.specs.History.{History}
use Rattle.s4_types.specs.declared.changes.Accepted.{Accepted}
use Rattle.s4_types.specs.declared.changes.Change.{Change}
use Rattle.s4_types.specs.declared.changes.Change.TheVariants as change
use Rattle.s4_types.specs.declared.requests.Role.{Role}
use Rattle.s4_types.specs.declared.requests.Request.TheVariants.{Control}
use Rattle.s4_types.specs.declared.requests.AdminRequest.TheVariants.{SetWindow}
use Rattle.s4_types.specs.declared.refusals.Refusal.{Refusal}
use Rattle.s4_types.specs.declared.replies.Reply.{Reply}
use Rattle.s4_types.specs.declared.replies.Reply.TheVariants.{Refused}
use Rattle.s4_model.specs.State.{State, state_of, took}
use Rattle.s4_model.specs.Visible.{hides, span_by}
use Rattle.s4_model.specs.Effect.{is_change_of}
use Rattle.s4_model.specs.Numbers.{next_by, window_by}
use Rattle.s4_model.specs.Refusals.{first_refusal}
use Rattle.s4_model.specs.Step.{Step, accepted_record, change_of, stamp}
use Rattle.s4_model.specs.Sound.{IsSound}
use Rattle.s4_model.specs.Laws.{ActsAtItsMoment, AChangeActsAtItsMoment}
use Rattle.version_store.specs.Store.{StoreFields}
use Rattle.drive.specs.Answering.{StoresChange}
use Rattle.history_restore.specs.Keeping.{LeavesPast}
use Rattle.history_restore.specs.Widening.{IsWidened, AWidenedWindowKeepsItsMoment, window_for}
use Rattle.history_restore.specs.Asking.{IsGiven, IsWithinChanges, clock_by}
use Rattle.history_restore.proofs.Moving.{stamped_more}
use Rattle.history_restore.proofs.Denying.{given_as_was}
use Rattle.history_restore.proofs.Stepping.{BySeen, ByTook, IsTaken, granted_took, past_of_seen, refused_saw, spans_stay}

-- ---- a window that was set

widened_by : (s : State) (a : Accepted) (now window : ℕ) → a.change ≡ change.SetWindow window → a.moment ≡ stamp s now → s.clock < a.moment → ActsAtItsMoment s (took s a) a → IsWidened s now window (took s a)
widened_by s a now window is stamped later acts = record {
  objects = λ q. acts.others q (ap (is_change_of q) is);
  versions = λ q t le. acts.earlier q t (omega arith);
  hidden = λ q t. ap (list_any (hides q t)) (spans_stay s a (ap span_by is));
  clock = stamped;
  window = ap (λ (c : Change). window_by c s.window) is;
  floor = ap (λ (c : Change). max s.floor (a.moment - window_by c s.window)) is;
  next = ap (λ (c : Change). next_by c s.next) is;
}

pub granted_window : (h after : History) (role : Role) (window now : ℕ) (reply : Reply) → ByTook → AChangeActsAtItsMoment → IsSound (state_of h) → ((e : Refusal) → reply ≡ Refused e → ⊥)
    → Step h role (Control (SetWindow window)) now reply after → IsWidened (state_of h) now window (state_of after)
granted_window h after role window now reply by_took acts_law sound free step =
    let s : State = state_of h in
    let taken : IsTaken h (Control (SetWindow window)) now after = granted_took h after role (Control (SetWindow window)) now reply (λ s r is. none-some r is) free step in
    let a : Accepted = accepted_record s taken.change now in
    let acts : ActsAtItsMoment s (took s a) a = subst (λ k. ActsAtItsMoment s k a) (by_took h a) (acts_law h role (Control (SetWindow window)) now reply a sound (subst (λ k. Step h role (Control (SetWindow window)) now reply k) taken.took step)) in
    subst (IsWidened s now window) (sym (ap state_of taken.took ∙ by_took h a))
    (widened_by s a now window (sym (same_Some (change.SetWindow window) taken.change taken.asked)) refl (omega arith) acts)

pub refused_window : (h after : History) (role : Role) (window now : ℕ) (reply : Reply) (e : Refusal) → BySeen → reply ≡ Refused e → Step h role (Control (SetWindow window)) now reply after → LeavesPast (state_of h) (state_of after)
refused_window h after role window now reply e by_seen refused step =
    let s : State = state_of h in
    subst (LeavesPast s) (sym (ap state_of (refused_saw h after role (Control (SetWindow window)) now reply e (λ s r is. none-some r is) refused step) ∙ by_seen h now)) (past_of_seen s now)

pub why_refused : (h after : History) (role : Role) (window now : ℕ) (reply : Reply) (e : Refusal) → reply ≡ Refused e → Step h role (Control (SetWindow window)) now reply after → IsGiven (first_refusal (state_of h) role (Control (SetWindow window))) e
why_refused h after role window now reply e refused step = given_as_was h after role (Control (SetWindow window)) now reply e refl refused step (λ s r is. none-some r is)

-- a request to set the window stores nothing, whatever it is answered
pub window_stores_none : (b : Bool) (s : State) (window m : ℕ) (store after : StoreFields) → MatchBool b ((c : Change) → change_of s (Control (SetWindow window)) ≡ Some c → StoresChange store c m after) (after ≡ store) → after ≡ store
window_stores_none true s window m store after leaves = leaves (change.SetWindow window) refl
window_stores_none false s window m store after leaves = leaves

-- ---- a moment that is kept

pub keeps_moment : AWidenedWindowKeepsItsMoment
keeps_moment s middle later now at count None widens past within below end =
    let wide : window_for s now at count ≤ s.window = ltb-false s.window (window_for s now at count) widens.0 in
    let window : middle.window ≡ s.window = ap (λ (k : State). k.window) widens.1 in
    let floor : middle.floor ≡ s.floor = ap (λ (k : State). k.floor) widens.1 in
    let clock : later.clock ≤ clock_by s.clock now count = subst (λ (k : State). IsWithinChanges k now count later) widens.1 within in
    let reach : later.floor ≤ max middle.floor (later.clock - middle.window) = past.reach in
    omega (arith, wide, window, floor, clock, reach, below, end)
keeps_moment s middle later now at count (Some window) widens past within below end =
    let wide : window ≡ window_for s now at (count + 1) = widens.1 in
    let set : middle.window ≡ window = widens.2.window in
    let floor : middle.floor ≡ max s.floor (middle.clock - window) = widens.2.floor in
    let clock : middle.clock ≡ stamp s now = widens.2.clock in
    let reach : later.floor ≤ max middle.floor (later.clock - middle.window) = past.reach in
    let on : middle.clock ≤ later.clock = past.clock in
    let passed : later.clock ≤ clock_by s.clock now (count + 1) = subst (λ n. later.clock ≤ n) (stamped_more s.clock now middle.clock count clock) within in
    omega (arith, wide, set, floor, clock, reach, on, passed, below, end)
