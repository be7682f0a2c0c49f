-- Where runs of hidden moments begin: at the first moments of spans.
use Rattle.std.proofs.Common.{◌≡◌, ◌⊎◌, inl, inr, ℕ, zero, suc, Bool, true, false, not, max, ◌==◌, ◌+◌, ◌-◌, ◌<◌, ◌≤◌, ◌&&◌, ◌||◌, nat_le, nat_lt, cond, List, [], ◌∷◌, ◌++◌, length, Result, Ok, Err, IfOk, sum_by, zero-add, add-zero, add-one, refl, sym, ap, subst, ◌∙◌, arith}
use Rattle.std.specs.List.{list_any, range_with_len, filter_map, cons_option, AllByRecursion}
use Rattle.std.proofs.lemmas.List.Sums.{sum_by-append}
use Rattle.std.proofs.lemmas.Bool.{false≢true, and_parts, and_from, or_cases, or_parts, or_from, or_left, or_right, leb-true, le-leb, eq-eqb}
use Rattle.std.proofs.SliceLists.{all_by_recursion_push}
use Rattle.s4_types.specs.declared.limits.TheConstants.{RUNS_IN_A_LIST, RUNS_IN_ALL}
use Rattle.s4_types.specs.declared.refusals.Refusal.{Refusal}
use Rattle.s4_types.specs.declared.changes.Accepted.{Accepted}
use Rattle.s4_types.specs.declared.changes.Change.{Change}
use Rattle.s4_types.specs.declared.changes.Change.TheVariants.{Create, Delete, Write, Truncate, SetAttr, SetWindow, Flush, FlushO}
use Rattle.s4_types.specs.declared.spans.Span.{Span}
use Rattle.lemmas.proofs.Nat.{eqb_false_back, add_rest}
use Rattle.lemmas.proofs.List.{all_weaker}
use Rattle.lemmas.proofs.Range.{range_push, count_by_range}
use Rattle.s4_model.specs.State.{State}
use Rattle.s4_model.specs.Refusals.{is_one_span_too_many}
use Rattle.s4_model.specs.Visible.{is_within, span_by, span_of, spans_of}
use Rattle.s4_model.specs.Runs.{is_covered, is_first, run_count, run_count_of_all}
use Rattle.s4_model.specs.Plain.{EndsBy, IsKeptChange}
use Rattle.s4_model.specs.RunCounting.{AllEndBy, has, noted}
use Rattle.s4_model.proofs.CountLemmas.{below-length, IsWithoutRepeats, not_both_ways}

-- the span of this list covers the moment
abbrev covers : ℕ → ℕ → Span → Bool
covers list t span = (span.object == list) && is_within span t

-- what is covered is so by the clock
covered_by : (clock list t : ℕ) (spans : List Span) → AllEndBy clock spans → list_any (covers list t) spans ≡ true → t ≤ clock
covered_by clock list t [] ends h = absurd (false≢true h)
covered_by clock list t (span ∷ spans) ends h =
    elim (or_cases (covers list t span) (list_any (covers list t) spans) h) [
      | inl here ↦ (let within = and_parts (span.object == list) (is_within span t) here in
          let parts = and_parts (nat_le span.first t) (nat_le t span.last) within.1 in
          let late : t ≤ span.last = leb-true _ _ parts.1 in
          omega (arith, ends.0))
      | inr there ↦ covered_by clock list t spans ends.1 there
    ]

-- a run begins by the clock
pub first_by : (clock floor list t : ℕ) (spans : List Span) → AllEndBy clock spans → is_first (is_covered floor spans list) t ≡ true → t < clock + 1
first_by clock floor list t spans ends h =
    let set = and_parts (is_covered floor spans list t) (not (nat_lt 0 t && is_covered floor spans list (t - 1))) h in
    let listed = and_parts (nat_le floor t) (list_any (covers list t) spans) set.0 in
    let by : t ≤ clock = covered_by clock list t spans ends listed.1 in
    omega arith

-- The numbers are first moments of runs, none twice, and those of all spans taken so far where a run begins.
pub record AreFirsts (floor list : ℕ) (spans taken : List Span) (firsts : List ℕ) : Type 0 where
  pub once : IsWithoutRepeats firsts
  pub each : AllByRecursion (λ t. is_first (is_covered floor spans list) t ≡ true) firsts
  pub found : AllByRecursion (λ span. is_first (is_covered floor spans list) (max span.first floor) ≡ true → has firsts (max span.first floor) ≡ true) taken

has-push : (xs : List ℕ) (x t : ℕ) → has xs t ≡ true → has (xs ++ x ∷ []) t ≡ true
has-push [] x t h = absurd (false≢true h)
has-push (y ∷ ys) x t h =
    elim (or_cases (y == t) (has ys t) h) [
      | inl e ↦ or_left (y == t) (has (ys ++ x ∷ []) t) e
      | inr e ↦ or_right (y == t) (has (ys ++ x ∷ []) t) (has-push ys x t e)
    ]

has-last : (xs : List ℕ) (x : ℕ) → has (xs ++ x ∷ []) x ≡ true
has-last [] x = or_left (x == x) false (eq-eqb x x refl)
has-last (y ∷ ys) x = or_right (y == x) (has (ys ++ x ∷ []) x) (has-last ys x)

has-push-false : (xs : List ℕ) (x t : ℕ) → has xs t ≡ false → (x == t) ≡ false → has (xs ++ x ∷ []) t ≡ false
has-push-false [] x t h e = or_from (x == t) false e refl
has-push-false (y ∷ ys) x t h e =
    let parts = or_parts (y == t) (has ys t) h in
    or_from (y == t) (has (ys ++ x ∷ []) t) parts.0 (has-push-false ys x t parts.1 e)

IsWithoutRepeats-push : (xs : List ℕ) (x : ℕ) → IsWithoutRepeats xs → has xs x ≡ false → IsWithoutRepeats (xs ++ x ∷ [])
IsWithoutRepeats-push [] x h out = (refl, tt)
IsWithoutRepeats-push (y ∷ ys) x h out =
    let parts = or_parts (y == x) (has ys x) out in
    (has-push-false ys x y h.0 (eqb_false_back y x parts.0), IsWithoutRepeats-push ys x h.1 parts.1)

-- before any span is taken
pub AreFirsts-none : (floor list : ℕ) (spans : List Span) → AreFirsts floor list spans [] []
AreFirsts-none floor list spans = record { once = tt; each = tt; found = tt }

-- one more span taken, and its first moment noted
AreFirsts-cases : (floor list : ℕ) (spans taken : List Span) (firsts : List ℕ) (span : Span) (begins known : Bool) → is_first (is_covered floor spans list) (max span.first floor) ≡ begins → has firsts (max span.first floor) ≡ known → AreFirsts floor list spans taken firsts → AreFirsts floor list spans (taken ++ span ∷ []) (cond (begins && not known) (firsts ++ max span.first floor ∷ []) firsts)
AreFirsts-cases floor list spans taken firsts span true true b k h = record {
  once = h.once;
  each = h.each;
  found = all_by_recursion_push _ taken span h.found (λ _. k);
}
AreFirsts-cases floor list spans taken firsts span true false b k h = record {
  once = IsWithoutRepeats-push firsts (max span.first floor) h.once k;
  each = all_by_recursion_push _ firsts (max span.first floor) h.each b;
  found = all_by_recursion_push _ taken span (all_weaker _ _ taken (λ other has_it first. has-push firsts (max span.first floor) (max other.first floor) (has_it first)) h.found) (λ _. has-last firsts (max span.first floor));
}
AreFirsts-cases floor list spans taken firsts span false known b k h = record {
  once = h.once;
  each = h.each;
  found = all_by_recursion_push _ taken span h.found (λ first. absurd (false≢true (sym b ∙ first)));
}

pub AreFirsts-noted : (floor list : ℕ) (spans taken : List Span) (firsts : List ℕ) (span : Span) → AreFirsts floor list spans taken firsts → AreFirsts floor list spans (taken ++ span ∷ []) (noted firsts (max span.first floor) (is_first (is_covered floor spans list) (max span.first floor)))
AreFirsts-noted floor list spans taken firsts span h = AreFirsts-cases floor list spans taken firsts span _ _ refl refl h

at_or_above : (m u : ℕ) → m ≤ suc u → (suc u ≡ m) ⊎ (m ≤ u)
at_or_above m u h = grind arith

pred : (u : ℕ) → suc u - 1 ≡ u
pred u = omega arith

not_first : (floor list u : ℕ) (spans : List Span) → is_covered floor spans list u ≡ true → not (nat_lt 0 (suc u) && is_covered floor spans list (suc u - 1)) ≡ true → ⊥
not_first floor list u spans set first = not_both_ways _ (and_from (nat_lt 0 (suc u)) (is_covered floor spans list (suc u - 1)) (le-leb 1 (suc u) (omega arith)) (ap (λ k. is_covered floor spans list k) (pred u) ∙ set)) first

-- a moment after a span's first and the floor isn't the first of a run that the span covers
at_first : (floor list t : ℕ) (spans : List Span) (span : Span) → ((u : ℕ) → covers list u span ≡ true → list_any (covers list u) spans ≡ true) → covers list t span ≡ true → is_first (is_covered floor spans list) t ≡ true → t ≡ max span.first floor
at_first floor list zero spans span inside h first =
    let set = and_parts (is_covered floor spans list zero) (not (nat_lt 0 zero && is_covered floor spans list (zero - 1))) first in
    let above = and_parts (nat_le floor zero) (list_any (covers list zero) spans) set.0 in
    let parts = and_parts (span.object == list) (is_within span zero) h in
    let ends = and_parts (nat_le span.first zero) (nat_le zero span.last) parts.1 in
    let a : floor ≤ 0 = leb-true _ _ above.0 in
    let b : span.first ≤ 0 = leb-true _ _ ends.0 in
    omega arith
at_first floor list (suc u) spans span inside h first =
    let set = and_parts (is_covered floor spans list (suc u)) (not (nat_lt 0 (suc u) && is_covered floor spans list (suc u - 1))) first in
    let above = and_parts (nat_le floor (suc u)) (list_any (covers list (suc u)) spans) set.0 in
    let parts = and_parts (span.object == list) (is_within span (suc u)) h in
    let ends = and_parts (nat_le span.first (suc u)) (nat_le (suc u) span.last) parts.1 in
    let a : floor ≤ suc u = leb-true _ _ above.0 in
    let b : span.first ≤ suc u = leb-true _ _ ends.0 in
    let e : suc u ≤ span.last = leb-true _ _ ends.1 in
    elim (at_or_above (max span.first floor) u (omega arith)) [
      | inl is ↦ is
      | inr later ↦ absurd (not_first floor list u spans (and_from _ _ (le-leb floor u (omega arith)) (inside u (and_from _ _ parts.0 (and_from _ _ (le-leb span.first u (omega arith)) (le-leb u span.last (omega arith)))))) set.1)
    ]

-- the first moment of each run is found
all_found : (floor list t : ℕ) (spans part : List Span) (firsts : List ℕ) → ((u : ℕ) → list_any (covers list u) part ≡ true → list_any (covers list u) spans ≡ true) → AllByRecursion (λ span. is_first (is_covered floor spans list) (max span.first floor) ≡ true → has firsts (max span.first floor) ≡ true) part → is_first (is_covered floor spans list) t ≡ true → list_any (covers list t) part ≡ true → has firsts t ≡ true
all_found floor list t spans [] firsts inside found first h = absurd (false≢true h)
all_found floor list t spans (span ∷ part) firsts inside found first h =
    elim (or_cases (covers list t span) (list_any (covers list t) part) h) [
      | inl here ↦ (let is : t ≡ max span.first floor = at_first floor list t spans span (λ u c. inside u (or_left (covers list u span) (list_any (covers list u) part) c)) here first in
          let P : ℕ → Type 0 = λ k. has firsts k ≡ true in
          let Q : ℕ → Type 0 = λ k. is_first (is_covered floor spans list) k ≡ true in
          subst P (sym is) (found.0 (subst Q is first)))
      | inr there ↦ all_found floor list t spans part firsts (λ u c. inside u (or_right (covers list u span) (list_any (covers list u) part) c)) found.1 first there
    ]

listed : (floor list t : ℕ) (spans : List Span) → is_first (is_covered floor spans list) t ≡ true → list_any (covers list t) spans ≡ true
listed floor list t spans first =
    let set = and_parts (is_covered floor spans list t) (not (nat_lt 0 t && is_covered floor spans list (t - 1))) first in
    (and_parts (nat_le floor t) (list_any (covers list t) spans) set.0).1

-- with all spans taken, there are as many runs as first moments
pub run_count-firsts : (floor list clock : ℕ) (spans : List Span) (firsts : List ℕ) → AllEndBy clock spans → AreFirsts floor list spans spans firsts → run_count (is_covered floor spans list) clock ≡ length firsts
run_count-firsts floor list clock spans firsts ends h =
    count_by_range (is_first (is_covered floor spans list)) (clock + 1)
    ∙ below-length firsts (is_first (is_covered floor spans list)) (clock + 1) h.once
    (all_weaker _ _ firsts (λ t first. (first, first_by clock floor list t spans ends first)) h.each)
    (λ t lt first. all_found floor list t spans spans firsts (λ u c. c) h.found first (listed floor list t spans first))

-- one turn of the count
pub AreFirsts-step : (floor list : ℕ) (spans taken more : List Span) (firsts new : List ℕ) (span : Span) (first : ℕ) (begins : Bool) → more ≡ taken ++ span ∷ [] → first ≡ max span.first floor → begins ≡ is_first (is_covered floor spans list) first → new ≡ noted firsts first begins → AreFirsts floor list spans taken firsts → AreFirsts floor list spans more new
AreFirsts-step floor list spans taken more firsts new span first begins e f b n h =
    let P : List Span → Type 0 = λ x. AreFirsts floor list spans x new in
    let Q : List ℕ → Type 0 = λ x. AreFirsts floor list spans (taken ++ span ∷ []) x in
    let same : new ≡ noted firsts (max span.first floor) (is_first (is_covered floor spans list) (max span.first floor)) =
    n ∙ ap (λ x. noted firsts first x) b ∙ ap (λ x. noted firsts x (is_first (is_covered floor spans list) x)) f in
    subst P (sym e) (subst Q (sym same) (AreFirsts-noted floor list spans taken firsts span h))

-- one more list counted
pub run_count_of_all-step : (floor clock k : ℕ) (spans : List Span) → run_count_of_all floor spans clock (k + 1) ≡ run_count_of_all floor spans clock k + run_count (is_covered floor spans k) clock
run_count_of_all-step floor clock k spans =
    let f : ℕ → ℕ = λ list. run_count (is_covered floor spans list) clock in
    let pushed : sum_by f (range_with_len 0 (suc k)) ≡ sum_by f (range_with_len 0 k ++ (0 + k) ∷ []) = ap (λ xs. sum_by f xs) (range_push 0 k) in
    let split : sum_by f (range_with_len 0 k ++ (0 + k) ∷ []) ≡ sum_by f (range_with_len 0 k) + sum_by f ((0 + k) ∷ []) = sum_by-append f (range_with_len 0 k) ((0 + k) ∷ []) in
    let last : sum_by f ((0 + k) ∷ []) ≡ f k = zero-add (f (0 + k)) ∙ ap f (zero-add k) in
    ap (λ n. run_count_of_all floor spans clock n) (add-one k) ∙ pushed ∙ split ∙ ap (λ n. sum_by f (range_with_len 0 k) + n) last

next_number : (k more : ℕ) → k + suc more ≡ k + more + 1
next_number k more = omega arith

run_count_of_all-grows : (floor clock k more : ℕ) (spans : List Span) → run_count_of_all floor spans clock k ≤ run_count_of_all floor spans clock (k + more)
run_count_of_all-grows floor clock k zero spans =
    let e : run_count_of_all floor spans clock (k + 0) ≡ run_count_of_all floor spans clock k = ap (λ n. run_count_of_all floor spans clock n) (add-zero k) in
    omega arith
run_count_of_all-grows floor clock k (suc more) spans =
    let before : run_count_of_all floor spans clock k ≤ run_count_of_all floor spans clock (k + more) = run_count_of_all-grows floor clock k more spans in
    let e : run_count_of_all floor spans clock (k + suc more) ≡ run_count_of_all floor spans clock (k + more + 1) = ap (λ n. run_count_of_all floor spans clock n) (next_number k more) in
    let step : run_count_of_all floor spans clock (k + more + 1) ≡ run_count_of_all floor spans clock (k + more) + run_count (is_covered floor spans (k + more)) clock = run_count_of_all-step floor clock (k + more) spans in
    omega arith

-- more lists have no fewer runs
pub run_count_of_all-le : (floor clock a b : ℕ) (spans : List Span) → a ≤ b → run_count_of_all floor spans clock a ≤ run_count_of_all floor spans clock b
run_count_of_all-le floor clock a b spans le =
    let grows : run_count_of_all floor spans clock a ≤ run_count_of_all floor spans clock (a + (b - a)) = run_count_of_all-grows floor clock a (b - a) spans in
    let e : run_count_of_all floor spans clock (a + (b - a)) ≡ run_count_of_all floor spans clock b = ap (λ n. run_count_of_all floor spans clock n) (add_rest a b le) in
    omega arith

-- the lists so far have more runs than they may, with this one
pub too_many_so_far : (floor clock list next total count limit : ℕ) (spans : List Span) → list < next → limit < total + count → total ≡ run_count_of_all floor spans clock list → count ≡ run_count (is_covered floor spans list) clock → true ≡ nat_lt limit (run_count_of_all floor spans clock next)
too_many_so_far floor clock list next total count limit spans lt above t n =
    let step = run_count_of_all-step floor clock list spans in
    let le = run_count_of_all-le floor clock (list + 1) next spans (omega arith) in
    let over : limit < run_count_of_all floor spans clock next = omega arith in
    sym (le-leb _ _ over)

ends_of : (clock : ℕ) (change : Change) (rest : List Span) → EndsBy clock change → AllEndBy clock rest → AllEndBy clock (cons_option (span_by change) rest)
ends_of clock (Flush first last) rest h all = (h, all)
ends_of clock (FlushO object first last) rest h all = (h, all)
ends_of clock (Create object attribute) rest h all = all
ends_of clock (Delete object) rest h all = all
ends_of clock (Write object offset bytes) rest h all = all
ends_of clock (Truncate object size) rest h all = all
ends_of clock (SetAttr object attribute) rest h all = all
ends_of clock (SetWindow window) rest h all = all

-- accepted spans end by the clock
pub AllEndBy-kept : (clock : ℕ) (changes : List Accepted) → AllByRecursion (IsKeptChange clock) changes → AllEndBy clock (filter_map span_of changes)
AllEndBy-kept clock [] h = tt
AllEndBy-kept clock (a ∷ changes) h = ends_of clock a.change (filter_map span_of changes) h.0.ends (AllEndBy-kept clock changes h.1)

-- and so do they with one more
pub AllEndBy-push : (clock : ℕ) (spans : List Span) (span : Span) → AllEndBy clock spans → span.last ≤ clock → AllEndBy clock (spans ++ span ∷ [])
AllEndBy-push clock spans span all h = all_by_recursion_push (λ x. x.last ≤ clock) spans span all h

-- what counting the runs of a drive's spans with one more answers
pub IfOk-too_many : (r : Result Bool Refusal) (s : State) (span : Span) (spans : List Span) → spans ≡ spans_of s ++ span ∷ [] → AllEndBy s.clock spans → IfOk r (λ b. (clock : ℕ) → AllEndBy clock spans → b ≡ (nat_lt RUNS_IN_A_LIST (run_count (is_covered s.floor spans span.object) clock) || nat_lt RUNS_IN_ALL (run_count_of_all s.floor spans clock s.next))) → IfOk r (λ b. b ≡ is_one_span_too_many s span)
unfolding is_one_span_too_many
IfOk-too_many (Ok b) s span spans e ends is =
    is s.clock ends ∙ ap (λ all. nat_lt RUNS_IN_A_LIST (run_count (is_covered s.floor all span.object) s.clock) || nat_lt RUNS_IN_ALL (run_count_of_all s.floor all s.clock s.next)) e
IfOk-too_many (Err e') s span spans e ends is = tt
