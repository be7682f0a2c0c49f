-- Changes that make no version.
use Rattle.std.proofs.Common.{◌≡◌, ℕ, ◌<◌, ◌≤◌, ◌==◌, Bool, true, false, cond, inl, inr, Option, Some, None, refl, sym, ap, subst, ◌∙◌, arith, ◌⊎◌, ◌||◌}
use Rattle.std.proofs.lemmas.Bool.{ne_eqb, eq-eqb, or_from, lt-leb}
use Rattle.std.specs.Prelude.{nat_le}
use Rattle.s4_types.specs.History.{History, Took, Seen}
use Rattle.s4_types.specs.declared.changes.Accepted.{Accepted}
use Rattle.s4_types.specs.declared.changes.Change.{Change}
use Rattle.s4_types.specs.declared.changes.Change.TheVariants as change
use Rattle.s4_types.specs.declared.requests.Role.TheVariants.{Admin}
use Rattle.s4_types.specs.declared.requests.Request.{Request}
use Rattle.s4_types.specs.declared.requests.Request.TheVariants.{Control}
use Rattle.s4_types.specs.declared.requests.AdminRequest.TheVariants.{Flush, FlushO}
use Rattle.s4_types.specs.declared.spans.Span.{Span}
use Rattle.s4_types.specs.declared.refusals.Refusal.{Refusal}
use Rattle.s4_types.specs.declared.refusals.Refusal.TheVariants.{NoObject, BadSpan, TooManySpans, ClockEnd, NoMemory}
use Rattle.s4_model.specs.State.{State, state_of, grown, seen, took}
use Rattle.s4_model.specs.Refusals.{first_refusal, last_number, is_bad_span, is_one_span_too_many}
use Rattle.s4_model.specs.Visible.{span_of}
use Rattle.s4_model.specs.Step.{change_of, stamp, accepted_record}
use Rattle.s4_model.specs.Sound.{IsSound}
use Rattle.s4_model.specs.Laws.{EveryStepKeepsSoundness}
use Rattle.segment_word.specs.AcceptViews.{Ledger, with_change, with_moment}
use Rattle.window.specs.Timeline.{Timeline, StandsFor}
use Rattle.s4_model.specs.Effect.{is_of_versions}
use Rattle.version_store.specs.Store.{StoreFields}
use Rattle.drive.specs.Fields.{DriveFields, SessionFields, store_of, state_in}
use Rattle.drive.specs.Keeping.{IsKeptDrive}
use Rattle.drive.specs.Later.{later_refusal}
use Rattle.drive.specs.Refusing.{or_then, want_of, span_refusal}
use Rattle.drive.specs.Answering.{RefusesChange}
use Rattle.drive.proofs.Kept.{kept_seen, kept_hidden}
use Rattle.drive.proofs.Stepping.{sound_seen, sound_taken}

-- a span of an object
abbrev pub span_at : ℕ → ℕ → ℕ → Span
span_at object first last = record { object = object; first = first; last = last }

-- ---- the order of checks

clock_free : (clock : ℕ) → clock < last_number → (clock == last_number) ≡ false
clock_free clock lt = ne_eqb clock last_number (λ e. absurd (omega arith))

-- what is left to refuse of a change of the window
abbrev pub end_refusal : ℕ → Option Refusal
end_refusal clock = cond (clock == last_number) (Some ClockEnd) None

pub window_free : (clock at : ℕ) → clock ≡ at → clock < last_number → end_refusal at ≡ None
window_free clock at is lt = ap (λ (b : Bool). cond b (Some ClockEnd) None) (clock_free at (omega arith))

pub window_at_end : (clock at : ℕ) → clock ≡ at → clock ≡ last_number → end_refusal at ≡ Some ClockEnd
window_at_end clock at is e = ap (λ (b : Bool). cond b (Some ClockEnd) None) (eq-eqb at last_number (sym is ∙ e))

abbrev pub span_tests : Bool → Option Refusal → Option Refusal
span_tests many rest = cond many (Some TooManySpans) rest

-- a span that makes too many runs is refused so, and lack of memory for the plan may come in its place
pub unplanned : (w : Timeline) (s : State) (span : Span) (e : Refusal) → StandsFor w s → (e ≡ NoMemory) ⊎ ((e ≡ TooManySpans) × (is_one_span_too_many s span ≡ true)) → (e ≡ NoMemory) ⊎ (span_refusal s span ≡ Some e)
unplanned w s span e stands (inl is) = inl is
unplanned w s span e stands (inr h) = inr (ap (λ (b : Bool). span_tests b (end_refusal s.clock)) h.1 ∙ ap (λ (r : Refusal). Some r) (sym h.0))

pub unplanned_at_end : (w : Timeline) (s : State) (span : Span) (e : Refusal) → StandsFor w s → is_one_span_too_many s span ≡ false → e ≡ ClockEnd → w.clock ≡ last_number → (e ≡ NoMemory) ⊎ (span_refusal s span ≡ Some e)
unplanned_at_end w s span e stands few is at =
    inr (ap (λ (b : Bool). span_tests b (end_refusal s.clock)) few ∙ window_at_end w.clock s.clock stands.clock at ∙ ap (λ (r : Refusal). Some r) (sym is))

pub planned : (w : Timeline) (s : State) (span : Span) → StandsFor w s → is_one_span_too_many s span ≡ false → w.clock < last_number → span_refusal s span ≡ None
planned w s span stands few lt = ap (λ (b : Bool). span_tests b (end_refusal s.clock)) few ∙ window_free w.clock s.clock stands.clock lt

-- the checks of a span that isn't bad
pub span_later : (s : State) (first last : ℕ) → is_bad_span s (Control (Flush first last)) ≡ false → later_refusal s (Control (Flush first last)) ≡ span_refusal s (record { object = 0; first = first; last = last })
span_later s first last good = ap (λ (b : Bool). cond b (Some BadSpan) (span_refusal s (record { object = 0; first = first; last = last }))) good

pub span_bad : (s : State) (first last : ℕ) → is_bad_span s (Control (Flush first last)) ≡ true → later_refusal s (Control (Flush first last)) ≡ Some BadSpan
span_bad s first last bad = ap (λ (b : Bool). cond b (Some BadSpan) (span_refusal s (record { object = 0; first = first; last = last }))) bad

-- a planned span of all objects is refused by nothing
pub flush_free : (s : State) (object first last : ℕ) → object ≡ 0 → is_bad_span s (Control (Flush first last)) ≡ false → span_refusal s (record { object = object; first = first; last = last }) ≡ None → later_refusal s (Control (Flush first last)) ≡ None
flush_free s object first last is good free = span_later s first last good ∙ subst (λ (o : ℕ). span_refusal s (record { object = o; first = first; last = last }) ≡ None) is free

-- and is the one that the change hides
pub flush_span : (first last object : ℕ) (span : Span) → object ≡ 0 → span ≡ record { object = object; first = first; last = last } → span_of (record { number = 0; moment = 0; change = change.Flush first last }) ≡ Some span
flush_span first last object span is e =
    ap (λ (o : ℕ). Some (span_at o first last)) (sym is) ∙ ap (λ (x : Span). Some x) (sym e)

pub flush_given : (s : State) (first last object : ℕ) (span : Span) → IsSound s → object ≡ 0 → span ≡ record { object = object; first = first; last = last } → span.object < s.next
flush_given s first last object span sound is e =
    let o : span.object ≡ object = ap (λ (x : Span). x.object) e in
    let low : 1 ≤ s.next = sound.numbered in
    omega arith

pub object_given : (object first last next at : ℕ) (span : Span) → next ≡ at → object < next → span ≡ record { object = object; first = first; last = last } → span.object < at
object_given object first last next at span is lt e =
    let o : span.object ≡ object = ap (λ (x : Span). x.object) e in
    omega arith

-- those of one object's
abbrev pub object_tests : Bool → Bool → Option Refusal → Option Refusal
object_tests bad absent rest = cond bad (Some BadSpan) (cond absent (Some NoObject) rest)

pub object_bad : (s : State) (span : Span) → is_bad_span s (Control (FlushO span.object span.first span.last)) ≡ true → later_refusal s (Control (FlushO span.object span.first span.last)) ≡ Some BadSpan
object_bad s span bad = ap (λ (b : Bool). object_tests b (span.object == 0 || nat_le s.next span.object) (span_refusal s span)) bad

given_there : (object next : ℕ) → 1 ≤ object → object < next → (object == 0 || nat_le next object) ≡ false
given_there object next low lt = or_from (object == 0) (nat_le next object) (ne_eqb object 0 (λ e. absurd (omega arith))) (lt-leb next object lt)

pub object_later : (s : State) (span : Span) (next : ℕ) → next ≡ s.next → is_bad_span s (Control (FlushO span.object span.first span.last)) ≡ false → 1 ≤ span.object → span.object < next → later_refusal s (Control (FlushO span.object span.first span.last)) ≡ span_refusal s span
object_later s span next is good low lt =
    ap (λ (b : Bool). object_tests b (span.object == 0 || nat_le s.next span.object) (span_refusal s span)) good
    ∙ ap (λ (b : Bool). object_tests false b (span_refusal s span)) (given_there span.object s.next low (omega arith))

-- ---- what a change leaves

-- what refuses first refuses
pub refuses_first : (first want : Option Refusal) (e : Refusal) → first ≡ Some e → or_then first want ≡ Some e
refuses_first first want e is = ap (λ (r : Option Refusal). or_then r want) is

-- a bad span is refused before anything has changed
pub refuses_bad : (scarce : StoreFields) (first : Option Refusal) (d : DriveFields) (before : SessionFields) (request : Request) (now : ℕ) (e : Refusal) → first ≡ Some BadSpan → e ≡ BadSpan → RefusesChange scarce first d d before before request now e
refuses_bad scarce first d before request now e is same = record {
  why = inr (refuses_first first (want_of scarce (state_in d) request now) e (is ∙ ap (λ (r : Refusal). Some r) (sym same)));
  ledger = refl;
  store = refl;
  session = refl;
}

-- the state of a history goes on record by record
abbrev pub StateByChanges : Type 0
StateByChanges = (h : History) (a : Accepted) → state_of (grown h (Took a)) ≡ took (state_of h) a

abbrev pub StateByMoments : Type 0
StateByMoments = (h : History) (now : ℕ) → state_of (grown h (Seen now)) ≡ seen (state_of h) now

pub sound_took : EveryStepKeepsSoundness → StateByChanges → (h : History) (request : Request) (now : ℕ) (change : Change) → IsSound (state_of h) → first_refusal (state_of h) Admin request ≡ None → change_of (state_of h) request ≡ Some change
    → IsSound (took (state_of h) (accepted_record (state_of h) change now))
sound_took keeps by h request now change sound free asked =
    subst IsSound (by h (accepted_record (state_of h) change now)) (sound_taken keeps h Admin request now change sound free asked)

pub after_hidden : EveryStepKeepsSoundness → StateByChanges → (l later : Ledger) (seat : ℕ) (store : StoreFields) (w last : Timeline) (next : ℕ) (request : Request) (now m : ℕ) (change : Change)
    → IsKeptDrive (state_of l.history) store w next
    → first_refusal (state_of l.history) Admin request ≡ None → change_of (state_of l.history) request ≡ Some change → is_of_versions change ≡ false
    → m ≡ stamp (state_of l.history) now → later ≡ with_change l seat m change
    → StandsFor last (took (state_of l.history) (accepted_record (state_of l.history) change now))
    → IsKeptDrive (state_of later.history) store last next
after_hidden keeps by l later seat store w last next request now m change kept free asked none at is stands =
    let s : State = state_of l.history in
    let a : Accepted = accepted_record s change now in
    let goes_on : state_of later.history ≡ took s a =
    ap (λ (x : Ledger). state_of x.history) (is ∙ ap (λ (t : ℕ). with_change l seat t change) at) ∙ by l.history a in
    subst (λ (x : State). IsKeptDrive x store last next) (sym goes_on)
    (kept_hidden s store w last next a kept none (omega arith) stands (sound_took keeps by l.history request now change kept.sound free asked))

pub after_moment : EveryStepKeepsSoundness → StateByMoments → (l later : Ledger) (store : StoreFields) (w last : Timeline) (next now : ℕ)
    → IsKeptDrive (state_of l.history) store w next → later ≡ with_moment l now → StandsFor last (seen (state_of l.history) now) → IsKeptDrive (state_of later.history) store last next
after_moment keeps by l later store w last next now kept is stands =
    let s : State = state_of l.history in
    let goes_on : state_of later.history ≡ seen s now = ap (λ (x : Ledger). state_of x.history) is ∙ by l.history now in
    subst (λ (x : State). IsKeptDrive x store last next) (sym goes_on)
    (kept_seen s store w last next now kept stands (subst IsSound (by l.history now) (sound_seen keeps l.history now kept.sound)))
