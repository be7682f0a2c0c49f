-- The lists of spans: their runs, and what they hide.
use Rattle.std.proofs.Common.{◌≡◌, ℕ, ◌+◌, ◌<◌, ◌≤◌, ◌==◌, ◌&&◌, ◌||◌, Bool, false, leb, List, [], ◌∷◌, ◌++◌, refl, ap, sym, ◌∙◌, arith}
use Rattle.std.proofs.lemmas.Bool.{and_left, and_right, lt-leb, le-leb, ne_eqb}
use Rattle.std.specs.List.{list_any, AllByRecursion}
use Rattle.s4_types.specs.History.{History}
use Rattle.s4_types.specs.declared.spans.Span.{Span}
use Rattle.lemmas.proofs.Bool.{or_by_parts}
use Rattle.s4_model.specs.Numbers.{clock_of, floor_of, next_of}
use Rattle.s4_model.specs.State.{State, state_of}
use Rattle.s4_model.specs.Visible.{is_hidden, hides, is_within, spans_of}
use Rattle.s4_model.specs.Runs.{is_covered}
use Rattle.s4_model.specs.Sound.{EndsBefore, IsOfGiven, IsSound}
use Rattle.s4_model.specs.Laws.{HaveMaximalRuns}
use Rattle.s4_model.proofs.RunLaws.{runs_are_maximal}

-- whether a span is on this list, and has the moment in it
abbrev covers : ℕ → ℕ → Span → Bool
covers list t span = span.object == list && is_within span t

pub none_covers : (list clock t : ℕ) (spans : List Span) → clock ≤ t → AllByRecursion (EndsBefore clock) spans → list_any (covers list t) spans ≡ false
none_covers list clock t [] le past = refl
none_covers list clock t (span ∷ spans) le past =
    let ends : span.last < clock = past.0 in
    ap (λ b. b || list_any (covers list t) spans) (and_right (span.object == list) (is_within span t) (and_right (leb span.first t) (leb t span.last) (lt-leb t span.last (omega arith))))
    ∙ none_covers list clock t spans le past.1

-- where spans end at or before the clock, the runs of their lists are the maximal ones
spans_have_maximal_runs : (s : State) (spans : List Span) (list : ℕ) → AllByRecursion (EndsBefore (s.clock + 1)) spans → HaveMaximalRuns s spans list
spans_have_maximal_runs s spans list past =
    runs_are_maximal (is_covered s.floor spans list) s.clock
    (and_right (leb s.floor (s.clock + 1)) (list_any (covers list (s.clock + 1)) spans) (none_covers list (s.clock + 1) (s.clock + 1) spans (omega arith) past))

pub all_past : (clock : ℕ) (spans : List Span) → AllByRecursion (EndsBefore clock) spans → AllByRecursion (EndsBefore (clock + 1)) spans
all_past clock [] past = tt
all_past clock (span ∷ spans) past = let ends : span.last < clock = past.0 in (omega arith, all_past clock spans past.1)

pub all_past_push : (clock : ℕ) (spans : List Span) (span : Span) → AllByRecursion (EndsBefore clock) spans → span.last ≤ clock → AllByRecursion (EndsBefore (clock + 1)) (spans ++ span ∷ [])
all_past_push clock [] span past le = (omega arith, tt)
all_past_push clock (first ∷ spans) span past le = let ends : first.last < clock = past.0 in (omega arith, all_past_push clock spans span past.1 le)

pub lists_have_maximal_runs : (h : History) (list : ℕ) → IsSound (state_of h) → HaveMaximalRuns (state_of h) (spans_of (state_of h)) list × ((span : Span) → span.last ≤ clock_of h → HaveMaximalRuns (state_of h) (spans_of (state_of h) ++ span ∷ []) list)
lists_have_maximal_runs h list sound = (
  spans_have_maximal_runs (state_of h) (spans_of (state_of h)) list (all_past (clock_of h) (spans_of (state_of h)) sound.past),
  λ span le. spans_have_maximal_runs (state_of h) (spans_of (state_of h) ++ span ∷ []) list (all_past_push (clock_of h) (spans_of (state_of h)) span sound.past le),
)

pub any_hides : (o t : ℕ) (spans : List Span) → list_any (hides o t) spans ≡ (list_any (covers 0 t) spans || list_any (covers o t) spans)
any_hides o t [] = refl
any_hides o t (span ∷ spans) =
    or_by_parts (span.object == 0) (span.object == o) (is_within span t) (list_any (hides o t) spans) (list_any (covers 0 t) spans) (list_any (covers o t) spans) (any_hides o t spans)

pub lists_hide_alike : (h : History) (o t : ℕ) → floor_of h ≤ t → is_hidden (state_of h) o t ≡ (is_covered (floor_of h) (spans_of (state_of h)) 0 t || is_covered (floor_of h) (spans_of (state_of h)) o t)
lists_hide_alike h o t le =
    any_hides o t (spans_of (state_of h))
    ∙ sym (ap (λ b. (b && list_any (covers 0 t) (spans_of (state_of h))) || (b && list_any (covers o t) (spans_of (state_of h)))) (le-leb (floor_of h) t le))

pub none_of : (list next t : ℕ) (spans : List Span) → next ≤ list → AllByRecursion (IsOfGiven next) spans → list_any (covers list t) spans ≡ false
none_of list next t [] le owned = refl
none_of list next t (span ∷ spans) le owned =
    let below : span.object < next = owned.0 in
    ap (λ b. b || list_any (covers list t) spans) (and_left (span.object == list) (is_within span t) (ne_eqb span.object list (λ e. omega arith)))
    ∙ none_of list next t spans le owned.1

pub no_list_is_left_out : (h : History) (list t : ℕ) → IsSound (state_of h) → next_of h ≤ list → is_covered (floor_of h) (spans_of (state_of h)) list t ≡ false
no_list_is_left_out h list t sound le = and_right (leb (floor_of h) t) (list_any (covers list t) (spans_of (state_of h))) (none_of list (next_of h) t (spans_of (state_of h)) le sound.owned)
