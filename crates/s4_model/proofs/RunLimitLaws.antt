-- No step leaves more runs than lists may have.
use Rattle.std.proofs.Common.{◌≡◌, ℕ, zero, suc, Bool, true, false, not, ◌+◌, ◌-◌, ◌<◌, ◌≤◌, ◌==◌, ◌&&◌, ◌||◌, nat_le, nat_lt, inl, inr, List, [], ◌∷◌, ◌++◌, Option, None, Some, refl, ap, sym, ◌∙◌, subst, add-one, append-nil, arith}
use Rattle.std.specs.List.{list_any, cons_option, AllByRecursion}
use Rattle.std.proofs.lemmas.Bool.{false≢true, and_parts, and_cases, and_left, and_right, or_parts, le-leb, lt-leb, leb-true, leb-false, ltb-false, lt-ltb, ne_eqb, cases_Bool, cases_eq}
use Rattle.std.proofs.lemmas.List.Folds.{list_any-append}
use Rattle.s4_types.specs.History.{History}
use Rattle.s4_types.specs.declared.changes.Accepted.{Accepted}
use Rattle.s4_types.specs.declared.limits.TheConstants.{RUNS_IN_A_LIST, RUNS_IN_ALL}
use Rattle.s4_types.specs.declared.replies.Reply.{Reply}
use Rattle.s4_types.specs.declared.requests.Role.{Role}
use Rattle.s4_types.specs.declared.requests.Request.{Request}
use Rattle.s4_types.specs.declared.spans.Span.{Span}
use Rattle.lemmas.proofs.Bool.{or_false}
use Rattle.lemmas.proofs.Range.{count_by_range, below, tally}
use Rattle.s4_model.specs.State.{State, state_of, seen, took, new_history}
use Rattle.s4_model.specs.Visible.{is_within, span_by, spans_of}
use Rattle.s4_model.specs.Runs.{is_covered, is_first, run_count, run_count_of_all}
use Rattle.s4_model.specs.Refusals.{is_one_span_too_many}
use Rattle.s4_model.specs.Step.{Step}
use Rattle.s4_model.specs.Sound.{EndsBefore, IsOfGiven, IsSound}
use Rattle.s4_model.specs.Exchanges.{Exchange, Leads}
use Rattle.s4_model.specs.Laws.{KeepsRunLimits}
use Rattle.s4_model.proofs.RunLemmas.{run_count_of_all-step}
use Rattle.s4_model.proofs.StateLemmas.{state_of-seen, state_of-took}
use Rattle.s4_model.proofs.OutcomeLemmas.{IsTaken, Outcome, OnlySaw, TookIt, outcome_of}
use Rattle.s4_model.proofs.GrantedLemmas.{granted_span_ends, granted_span_is_owned, granted_span_is_not_too_many}
use Rattle.s4_model.proofs.SoundLemmas.{IsSound-step, spans_of-took, moment_is_later, next_by-grows}
use Rattle.s4_model.proofs.ListLaws.{none_covers, all_past, all_past_push, none_of}

-- whether the moment before is in the set
abbrev before : (ℕ → Bool) → ℕ → Bool
before set t = nat_lt 0 t && set (t - 1)

before_next : (set : ℕ → Bool) (t : ℕ) → before set (suc t) ≡ set t
before_next set t = ap (λ b. b && set (suc t - 1)) (lt-ltb 0 (suc t) (omega arith)) ∙ ap set (let e : suc t - 1 ≡ t = omega arith in e)

-- One moment more, of a set and of what is kept of it: where a run of the set is open and none of what is
-- kept, one more may still begin there.
one_more : (s t bs bt : Bool) (x y : ℕ) → x + tally (bs && not bt) ≤ y → (t ≡ true → s ≡ true) → (bt ≡ true → bs ≡ true) → (s ≡ true → t ≡ false → bt ≡ false) → x + tally (t && not bt) + tally (s && not t) ≤ y + tally (s && not bs)
one_more true true true true x y h p q r = omega arith
one_more true true true false x y h p q r = omega arith
one_more true true false true x y h p q r = absurd (false≢true (q refl))
one_more true true false false x y h p q r = omega arith
one_more true false true true x y h p q r = absurd (false≢true (sym (r refl refl)))
one_more true false true false x y h p q r = omega arith
one_more true false false true x y h p q r = absurd (false≢true (q refl))
one_more true false false false x y h p q r = omega arith
one_more false true bs bt x y h p q r = absurd (false≢true (p refl))
one_more false false true true x y h p q r = omega arith
one_more false false true false x y h p q r = omega arith
one_more false false false true x y h p q r = omega arith
one_more false false false false x y h p q r = omega arith

-- what is kept of a set from a moment on
abbrev IsKeptFrom : ℕ → (ℕ → Bool) → (ℕ → Bool) → Type 0
IsKeptFrom from set kept = (t : ℕ) → kept t ≡ (nat_le from t && set t)

kept_is_in : (from : ℕ) (set kept : ℕ → Bool) → IsKeptFrom from set kept → (t : ℕ) → kept t ≡ true → set t ≡ true
kept_is_in from set kept is t h = (and_parts (nat_le from t) (set t) (sym (is t) ∙ h)).1

before_is_in : (from : ℕ) (set kept : ℕ → Bool) → IsKeptFrom from set kept → (t : ℕ) → before kept t ≡ true → before set t ≡ true
before_is_in from set kept is t h =
    let parts = and_parts (nat_lt 0 t) (kept (t - 1)) h in
    ap (λ b. b && set (t - 1)) parts.0 ∙ kept_is_in from set kept is (t - 1) parts.1

none_before : (from : ℕ) (set kept : ℕ → Bool) → IsKeptFrom from set kept → (t : ℕ) → set t ≡ true → kept t ≡ false → before kept t ≡ false
none_before from set kept is t in_it out =
    elim (and_cases (nat_le from t) (set t) (sym (is t) ∙ out)) [
      | inl early ↦ (let lt : t < from = leb-false _ _ early in
          and_right (nat_lt 0 t) (kept (t - 1)) (is (t - 1) ∙ and_left (nat_le from (t - 1)) (set (t - 1)) (lt-leb from (t - 1) (omega arith))))
      | inr not_in ↦ absurd (false≢true (sym not_in ∙ in_it))
    ]

fewer_so_far : (from : ℕ) (set kept : ℕ → Bool) → IsKeptFrom from set kept → (n : ℕ) → below (is_first kept) n + tally (before set n && not (before kept n)) ≤ below (is_first set) n
fewer_so_far from set kept is zero = omega arith
fewer_so_far from set kept is (suc n) =
    let so_far : below (is_first kept) n + tally (before set n && not (before kept n)) ≤ below (is_first set) n = fewer_so_far from set kept is n in
    let more : below (is_first kept) n + tally (kept n && not (before kept n)) + tally (set n && not (kept n)) ≤ below (is_first set) n + tally (set n && not (before set n)) =
    one_more (set n) (kept n) (before set n) (before kept n) (below (is_first kept) n) (below (is_first set) n) so_far (kept_is_in from set kept is n) (before_is_in from set kept is n) (none_before from set kept is n) in
    let open_here : tally (before set (suc n) && not (before kept (suc n))) ≡ tally (set n && not (kept n)) = ap (λ b. tally (b && not (before kept (suc n)))) (before_next set n) ∙ ap (λ b. tally (set n && not b)) (before_next kept n) in
    omega arith

-- what is kept of a set has no more runs
fewer_runs : (from clock : ℕ) (set kept : ℕ → Bool) → IsKeptFrom from set kept → run_count kept clock ≤ run_count set clock
fewer_runs from clock set kept is =
    let count : run_count kept clock ≡ below (is_first kept) (clock + 1) = count_by_range (is_first kept) (clock + 1) in
    let all : run_count set clock ≡ below (is_first set) (clock + 1) = count_by_range (is_first set) (clock + 1) in
    let le : below (is_first kept) (clock + 1) + tally (before set (clock + 1) && not (before kept (clock + 1))) ≤ below (is_first set) (clock + 1) = fewer_so_far from set kept is (clock + 1) in
    omega arith

-- where nothing passes from a number on, no more is counted
below_stops : (p : ℕ → Bool) (n m : ℕ) → n ≤ m → ((t : ℕ) → n ≤ t → p t ≡ false) → below p m ≡ below p n
below_stops p n zero le none = let e : 0 ≡ n = omega arith in ap (below p) e
below_stops p n (suc m) le none = elim (cases_eq n (suc m)) [
  | inl e ↦ ap (below p) (sym e)
  | inr more ↦ (let rest : below p m ≡ below p n = below_stops p n m (omega arith) none in
      let here : tally (p m) ≡ 0 = ap tally (none m (omega arith)) in
      omega arith)
]

no_more_runs : (set : ℕ → Bool) (clock later : ℕ) → clock ≤ later → ((t : ℕ) → clock + 1 ≤ t → set t ≡ false) → run_count set later ≡ run_count set clock
no_more_runs set clock later le none =
    count_by_range (is_first set) (later + 1)
    ∙ below_stops (is_first set) (clock + 1) (later + 1) (omega arith) (λ t low. and_left (set t) (not (before set t)) (none t low))
    ∙ sym (count_by_range (is_first set) (clock + 1))

covered_from : (floor later list t : ℕ) (spans : List Span) → floor ≤ later → is_covered later spans list t ≡ (nat_le later t && is_covered floor spans list t)
covered_from floor later list t spans le = elim (cases_Bool (nat_le later t)) [
  | inl above ↦ (let ge : later ≤ t = leb-true _ _ above in
      ap (λ b. nat_le later t && (b && list_any (λ span. span.object == list && is_within span t) spans)) (sym (le-leb floor t (omega arith))))
  | inr under ↦ and_left (nat_le later t) (list_any (λ span. span.object == list && is_within span t) spans) under ∙ sym (and_left (nat_le later t) (is_covered floor spans list t) under)
]

-- with a later clock and a higher floor a list has no more runs
no_more_in_list : (floor later clock after list : ℕ) (spans : List Span) → floor ≤ later → clock ≤ after → AllByRecursion (EndsBefore (clock + 1)) spans → run_count (is_covered later spans list) after ≤ run_count (is_covered floor spans list) clock
no_more_in_list floor later clock after list spans le on past =
    let same : run_count (is_covered later spans list) after ≡ run_count (is_covered later spans list) clock =
    no_more_runs (is_covered later spans list) clock after on (λ t low. and_right (nat_le later t) (list_any (λ span. span.object == list && is_within span t) spans) (none_covers list (clock + 1) t spans low past)) in
    let fewer : run_count (is_covered later spans list) clock ≤ run_count (is_covered floor spans list) clock =
    fewer_runs later clock (is_covered floor spans list) (is_covered later spans list) (λ t. covered_from floor later list t spans le) in
    omega arith

no_more_in_all : (floor later clock after k : ℕ) (spans : List Span) → floor ≤ later → clock ≤ after → AllByRecursion (EndsBefore (clock + 1)) spans → run_count_of_all later spans after k ≤ run_count_of_all floor spans clock k
no_more_in_all floor later clock after zero spans le on past = omega arith
no_more_in_all floor later clock after (suc k) spans le on past =
    let rest : run_count_of_all later spans after k ≤ run_count_of_all floor spans clock k = no_more_in_all floor later clock after k spans le on past in
    let here : run_count (is_covered later spans k) after ≤ run_count (is_covered floor spans k) clock = no_more_in_list floor later clock after k spans le on past in
    let a : run_count_of_all later spans after (suc k) ≡ run_count_of_all later spans after k + run_count (is_covered later spans k) after = ap (λ n. run_count_of_all later spans after n) (sym (add-one k)) ∙ run_count_of_all-step later after k spans in
    let b : run_count_of_all floor spans clock (suc k) ≡ run_count_of_all floor spans clock k + run_count (is_covered floor spans k) clock = ap (λ n. run_count_of_all floor spans clock n) (sym (add-one k)) ∙ run_count_of_all-step floor clock k spans in
    omega arith

no_runs : (set : ℕ → Bool) (clock : ℕ) → ((t : ℕ) → set t ≡ false) → run_count set clock ≡ 0
no_runs set clock none = count_by_range (is_first set) (clock + 1) ∙ below_stops (is_first set) 0 (clock + 1) (omega arith) (λ t low. and_left (set t) (not (before set t)) (none t))

-- the lists of numbers that weren't given add none
no_more_lists : (floor clock next k : ℕ) (spans : List Span) → next ≤ k → AllByRecursion (IsOfGiven next) spans → run_count_of_all floor spans clock k ≡ run_count_of_all floor spans clock next
no_more_lists floor clock next zero spans le owned = let e : 0 ≡ next = omega arith in ap (λ n. run_count_of_all floor spans clock n) e
no_more_lists floor clock next (suc k) spans le owned = elim (cases_eq next (suc k)) [
  | inl e ↦ ap (λ n. run_count_of_all floor spans clock n) (sym e)
  | inr more ↦ (let rest : run_count_of_all floor spans clock k ≡ run_count_of_all floor spans clock next = no_more_lists floor clock next k spans (omega arith) owned in
      let none : run_count (is_covered floor spans k) clock ≡ 0 = no_runs (is_covered floor spans k) clock (λ t. and_right (nat_le floor t) (list_any (λ span. span.object == k && is_within span t) spans) (none_of k next t spans (omega arith) owned)) in
      let a : run_count_of_all floor spans clock (suc k) ≡ run_count_of_all floor spans clock k + run_count (is_covered floor spans k) clock = ap (λ n. run_count_of_all floor spans clock n) (sym (add-one k)) ∙ run_count_of_all-step floor clock k spans in
      omega arith)
]

-- what is counted at the limit or below it stays so
stays_within : (a b limit : ℕ) → a ≤ b → b ≤ limit → a ≤ limit
stays_within a b limit le at = omega arith

-- a later state whose spans were within the limits at the earlier clock and floor
limits-later : (s k : State) (spans : List Span) → spans_of k ≡ spans → s.floor ≤ k.floor → s.clock ≤ k.clock → s.next ≤ k.next
    → AllByRecursion (EndsBefore (s.clock + 1)) spans → AllByRecursion (IsOfGiven s.next) spans
    → ((list : ℕ) → run_count (is_covered s.floor spans list) s.clock ≤ RUNS_IN_A_LIST) → run_count_of_all s.floor spans s.clock s.next ≤ RUNS_IN_ALL → KeepsRunLimits k
limits-later s k spans is floor clock next past owned each all =
    let P : List Span → Type 0 = λ xs. (list : ℕ) → run_count (is_covered k.floor xs list) k.clock ≤ RUNS_IN_A_LIST in
    let Q : List Span → Type 0 = λ xs. run_count_of_all k.floor xs k.clock k.next ≤ RUNS_IN_ALL in
    let R : ℕ → Type 0 = λ n. n ≤ RUNS_IN_ALL in
    record {
      each = subst P (sym is) (λ list. stays_within _ _ RUNS_IN_A_LIST (no_more_in_list s.floor k.floor s.clock k.clock list spans floor clock past) (each list));
      all = subst Q (sym is) (subst R (sym (no_more_lists k.floor k.clock s.next k.next spans next owned)) (stays_within _ _ RUNS_IN_ALL (no_more_in_all s.floor k.floor s.clock k.clock s.next spans floor clock past) all));
    }

limits-seen : (s : State) (now : ℕ) → IsSound s → KeepsRunLimits s → KeepsRunLimits (seen s now)
limits-seen s now sound kept = limits-later s (seen s now) (spans_of s) refl (omega arith) (omega arith) (omega arith) (all_past s.clock (spans_of s) sound.past) sound.owned kept.each kept.all

other_list : (floor list t : ℕ) (spans : List Span) (span : Span) → (span.object == list) ≡ false → is_covered floor (spans ++ span ∷ []) list t ≡ is_covered floor spans list t
other_list floor list t spans span other =
    let covers : Span → Bool = λ x. x.object == list && is_within x t in
    ap (λ b. nat_le floor t && b) (list_any-append covers spans (span ∷ []) ∙ ap (λ b. list_any covers spans || (b || false)) (and_left (span.object == list) (is_within span t) other) ∙ or_false (list_any covers spans))

from_nought : (set kept : ℕ → Bool) → ((t : ℕ) → kept t ≡ set t) → IsKeptFrom 0 set kept
from_nought set kept same t = same t ∙ sym (ap (λ b. b && set t) (le-leb 0 t (omega arith)))

other_list_within : (floor clock list limit : ℕ) (spans : List Span) (span : Span) → (span.object == list) ≡ false → run_count (is_covered floor spans list) clock ≤ limit → run_count (is_covered floor (spans ++ span ∷ []) list) clock ≤ limit
other_list_within floor clock list limit spans span other within =
    stays_within _ _ limit (fewer_runs 0 clock (is_covered floor spans list) (is_covered floor (spans ++ span ∷ []) list) (from_nought _ _ (λ t. other_list floor list t spans span other))) within

-- a span that isn't one too many, on each list
each_within : (s : State) (span : Span) → is_one_span_too_many s span ≡ false → KeepsRunLimits s → (list : ℕ) → run_count (is_covered s.floor (spans_of s ++ span ∷ []) list) s.clock ≤ RUNS_IN_A_LIST
unfolding is_one_span_too_many
each_within s span few kept list = elim (cases_eq span.object list) as (λ _. run_count (is_covered s.floor (spans_of s ++ span ∷ []) list) s.clock ≤ RUNS_IN_A_LIST) [
  | inl own ↦ (let P : ℕ → Type 0 = λ o. run_count (is_covered s.floor (spans_of s ++ span ∷ []) o) s.clock ≤ RUNS_IN_A_LIST in
      subst P own (ltb-false RUNS_IN_A_LIST (run_count (is_covered s.floor (spans_of s ++ span ∷ []) span.object) s.clock) (or_parts (nat_lt RUNS_IN_A_LIST (run_count (is_covered s.floor (spans_of s ++ span ∷ []) span.object) s.clock)) (nat_lt RUNS_IN_ALL (run_count_of_all s.floor (spans_of s ++ span ∷ []) s.clock s.next)) few).0))
  | inr other ↦ other_list_within s.floor s.clock list RUNS_IN_A_LIST (spans_of s) span (ne_eqb span.object list other) (kept.each list)
]

-- and on all together
all_within : (s : State) (span : Span) → is_one_span_too_many s span ≡ false → run_count_of_all s.floor (spans_of s ++ span ∷ []) s.clock s.next ≤ RUNS_IN_ALL
unfolding is_one_span_too_many
all_within s span few =
    ltb-false RUNS_IN_ALL (run_count_of_all s.floor (spans_of s ++ span ∷ []) s.clock s.next) (or_parts (nat_lt RUNS_IN_A_LIST (run_count (is_covered s.floor (spans_of s ++ span ∷ []) span.object) s.clock)) (nat_lt RUNS_IN_ALL (run_count_of_all s.floor (spans_of s ++ span ∷ []) s.clock s.next)) few).1

owned_push : (next : ℕ) (spans : List Span) (span : Span) → AllByRecursion (IsOfGiven next) spans → span.object < next → AllByRecursion (IsOfGiven next) (spans ++ span ∷ [])
owned_push next [] span owned lt = (lt, tt)
owned_push next (first ∷ spans) span owned lt = (owned.0, owned_push next spans span owned.1 lt)

limits-took : (s : State) (a : Accepted) (found : Option Span) → span_by a.change ≡ found → s.clock < a.moment → IsSound s → KeepsRunLimits s
    → AllByRecursion (λ span. span.last ≤ s.clock) (cons_option found []) → AllByRecursion (IsOfGiven s.next) (cons_option found []) → AllByRecursion (λ span. is_one_span_too_many s span ≡ false) (cons_option found [])
    → KeepsRunLimits (took s a)
limits-took s a None is later sound kept ends owned few =
    limits-later s (took s a) (spans_of s) (spans_of-took s a ∙ ap (λ x. spans_of s ++ cons_option x []) is ∙ append-nil (spans_of s)) (omega arith) (omega arith) (next_by-grows a.change s.next) (all_past s.clock (spans_of s) sound.past) sound.owned kept.each kept.all
limits-took s a (Some span) is later sound kept ends owned few =
    limits-later s (took s a) (spans_of s ++ span ∷ []) (spans_of-took s a ∙ ap (λ x. spans_of s ++ cons_option x []) is) (omega arith) (omega arith) (next_by-grows a.change s.next)
    (all_past_push s.clock (spans_of s) span sound.past ends.0) (owned_push s.next (spans_of s) span sound.owned owned.0) (each_within s span few.0 kept) (all_within s span few.0)

limits-taken : (s : State) (role : Role) (request : Request) (now : ℕ) (reply : Reply) (a : Accepted) → IsSound s → KeepsRunLimits s → IsTaken s role request now reply a → KeepsRunLimits (took s a)
limits-taken s role request now reply a sound kept taken =
    limits-took s a (span_by a.change) refl (moment_is_later s role request now reply a taken) sound kept
    (granted_span_ends s role request a.change taken.granted taken.asked_for)
    (granted_span_is_owned s role request a.change sound.numbered taken.granted taken.asked_for)
    (granted_span_is_not_too_many s role request a.change taken.granted taken.asked_for)

limits-outcome : (h : History) (role : Role) (request : Request) (now : ℕ) (reply : Reply) (after : History) → IsSound (state_of h) → KeepsRunLimits (state_of h) → Outcome h role request now reply after → KeepsRunLimits (state_of after)
limits-outcome h role request now reply after sound kept (OnlySaw is answers) = subst KeepsRunLimits (sym (ap state_of is ∙ state_of-seen h now)) (limits-seen (state_of h) now sound kept)
limits-outcome h role request now reply after sound kept (TookIt a is taken) = subst KeepsRunLimits (sym (ap state_of is ∙ state_of-took h a)) (limits-taken (state_of h) role request now reply a sound kept taken)

pub limits-step : (h : History) (role : Role) (request : Request) (now : ℕ) (reply : Reply) (after : History) → IsSound (state_of h) → KeepsRunLimits (state_of h) → Step h role request now reply after → KeepsRunLimits (state_of after)
limits-step h role request now reply after sound kept step = limits-outcome h role request now reply after sound kept (outcome_of step)

nought_within : (n limit : ℕ) → n ≡ 0 → n ≤ limit
nought_within n limit e = omega arith

limits-empty : (s : State) → spans_of s ≡ [] → KeepsRunLimits s
limits-empty s is =
    let P : List Span → Type 0 = λ xs. (list : ℕ) → run_count (is_covered s.floor xs list) s.clock ≤ RUNS_IN_A_LIST in
    let Q : List Span → Type 0 = λ xs. run_count_of_all s.floor xs s.clock s.next ≤ RUNS_IN_ALL in
    record {
      each = subst P (sym is) (λ list. nought_within (run_count (is_covered s.floor [] list) s.clock) RUNS_IN_A_LIST (no_runs (is_covered s.floor [] list) s.clock (λ t. and_right (nat_le s.floor t) false refl)));
      all = subst Q (sym is) (nought_within (run_count_of_all s.floor [] s.clock s.next) RUNS_IN_ALL (no_more_lists s.floor s.clock 0 s.next [] (omega arith) tt));
    }

pub limits-new : (window : ℕ) → KeepsRunLimits (state_of (new_history window))
limits-new window = limits-empty (state_of (new_history window)) refl

pub limits-leads : (h : History) (exchanges : List Exchange) (after : History) → IsSound (state_of h) → KeepsRunLimits (state_of h) → Leads h exchanges after → KeepsRunLimits (state_of after)
limits-leads h [] after sound kept is = subst (λ k. KeepsRunLimits (state_of k)) (sym is) kept
limits-leads h (e ∷ exchanges) after sound kept leads =
    limits-leads leads.0 exchanges after (IsSound-step h e.role e.request e.now e.reply leads.0 sound leads.1) (limits-step h e.role e.request e.now e.reply leads.0 sound kept leads.1) leads.2
