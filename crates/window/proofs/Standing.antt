-- How a window goes on standing for the state of a history.
use Rattle.std.proofs.Common.{◌≡◌, ◌⊎◌, inl, inr, ℕ, Bool, true, false, ◌&&◌, ◌||◌, ◌-◌, ◌^◌, ◌<◌, ◌≤◌, nat_lt, nat_le, max, List, [], ◌∷◌, ◌++◌, length, count_by, filter, Option, Some, None, Result, Ok, Err, IfErr, MatchResult, refl, sym, ap, subst, ◌∙◌, append_assoc, append-nil, arith}
use Rattle.std.specs.List.{list_any, filter_map, cons_option, AllByRecursion}
use Rattle.std.proofs.lemmas.List.Elements.{filter_map-append}
use Rattle.std.proofs.lemmas.List.Sums.{length-filter}
use Rattle.std.proofs.lemmas.Bool.{false≢true, leb-true, lt-ltb, le-ltb, and_left, or_left, or_right, or_from, cases_Bool}
use Rattle.s4_types.specs.declared.spans.Span.{Span}
use Rattle.s4_types.specs.declared.changes.Accepted.{Accepted}
use Rattle.s4_types.specs.declared.changes.Change.{Change}
use Rattle.s4_types.specs.declared.changes.Change.TheVariants.{Create, Delete, Write, Truncate, SetAttr, SetWindow, Flush, FlushO}
use Rattle.s4_types.specs.declared.limits.TheConstants.{RUNS_IN_A_LIST, RUNS_IN_ALL}
use Rattle.s4_types.specs.declared.refusals.Refusal.{Refusal}
use Rattle.s4_types.specs.declared.refusals.Refusal.TheVariants.{NoMemory, TooManySpans}
use Rattle.s4_model.specs.Numbers.{window_by, next_by}
use Rattle.s4_model.specs.State.{State, seen, took}
use Rattle.s4_model.specs.Visible.{is_hidden, span_by, span_of, spans_of}
use Rattle.s4_model.specs.Runs.{is_covered, run_count, run_count_of_all}
use Rattle.s4_model.specs.Refusals.{is_one_span_too_many}
use Rattle.s4_model.specs.Sound.{IsOfGiven}
use Rattle.window.specs.Runs.{covers, Ascend, with_span, is_live, is_live_in}
use Rattle.window.specs.declared.chunks.Chunk.{Chunk}
use Rattle.window.specs.Chunks.{flat, AllNumbered}
use Rattle.window.specs.Timeline.{Timeline, CoverAlike, StandsFor, Plan, chunks_by, IsMade, HasMoved}
use Rattle.s4_model.specs.Effect.{is_of_versions}
use Rattle.s4_model.specs.RunCounting.{AllEndBy}
use Rattle.s4_model.proofs.SoundLemmas.{next_by-grows}
use Rattle.s4_model.proofs.ListLaws.{any_hides}
use Rattle.window.proofs.Ordering.{Ascend-with_span, Ascend-filter, all_with_span, all_filter}
use Rattle.window.proofs.Covering.{covers_with_span, covers_live, covers_push}
use Rattle.window.proofs.Live.{live_twice, count_live_in}
use Rattle.window.proofs.Counting.{count_live, count_live_of_all, run_count-same, run_count_of_all-same}

spans_at_end : (a : Accepted) (found : Option Span) → span_of a ≡ found → filter_map span_of (a ∷ []) ≡ cons_option found []
spans_at_end a found e = ap (λ o. cons_option o []) e

-- the spans with one more change
pub spans_took : (s : State) (a : Accepted) (found : Option Span) → span_of a ≡ found → spans_of (took s a) ≡ spans_of s ++ cons_option found []
spans_took s a found e =
    ap (λ xs. s.spans ++ xs) (filter_map-append span_of s.changes (a ∷ []) ∙ ap (λ xs. filter_map span_of s.changes ++ xs) (spans_at_end a found e))
    ∙ sym (append_assoc s.spans (filter_map span_of s.changes) (cons_option found []))

all_given : (next later : ℕ) (runs : List Span) → next ≤ later → AllByRecursion (IsOfGiven next) runs → AllByRecursion (IsOfGiven later) runs
all_given next later [] le given = tt
all_given next later (run ∷ runs) le given = let lt : run.object < next = given.0 in (omega arith, all_given next later runs le given.1)

-- what a change of the versions leaves
pub leaves : (c : Change) → is_of_versions c ≡ true → (window : ℕ) → (window_by c window ≡ window) × (span_by c ≡ None)
leaves (Create o attribute) h window = (refl, refl)
leaves (Delete o) h window = (refl, refl)
leaves (Write o offset bytes) h window = (refl, refl)
leaves (Truncate o size) h window = (refl, refl)
leaves (SetAttr o attribute) h window = (refl, refl)
leaves (SetWindow w) h window = absurd (false≢true h)
leaves (Flush first last) h window = absurd (false≢true h)
leaves (FlushO o first last) h window = absurd (false≢true h)

span_leaves_window : (c : Change) (span : Span) (window : ℕ) → span_by c ≡ Some span → window_by c window ≡ window
span_leaves_window (Create o attribute) span window h = refl
span_leaves_window (Delete o) span window h = refl
span_leaves_window (Write o offset bytes) span window h = refl
span_leaves_window (Truncate o size) span window h = refl
span_leaves_window (SetAttr o attribute) span window h = refl
span_leaves_window (SetWindow w) span window h = cc
span_leaves_window (Flush first last) span window h = refl
span_leaves_window (FlushO o first last) span window h = refl

-- the window as it is after a change
abbrev pub after_change : Timeline → ℕ → ℕ → List Span → List Chunk → Timeline
after_change w moment window runs chunks = record { clock = moment; window = window; floor = max w.floor (moment - window); runs = runs; chunks = chunks }

floor_after : (a b m n k l : ℕ) → a ≡ b → m ≡ n → k ≡ l → max a (m - k) ≡ max b (n - l)
floor_after a b m n k l e f g = omega arith

-- a change that hides nothing
pub stands_took : (w : Timeline) (s : State) (a : Accepted) (moment window : ℕ) → a.moment ≡ moment → window ≡ window_by a.change s.window → span_of a ≡ None → StandsFor w s → StandsFor (after_change w moment window w.runs w.chunks) (took s a)
stands_took w s a moment window at set none stands = record {
  clock = sym at;
  window = set;
  floor = floor_after w.floor s.floor moment a.moment window (window_by a.change s.window) stands.floor (sym at) set;
  alike = λ list t le. stands.alike list t (omega arith) ∙ ap (λ spans. list_any (covers list t) spans) (sym (spans_took s a None none ∙ append-nil (spans_of s)));
  owned = all_given s.next (next_by a.change s.next) w.runs (next_by-grows a.change s.next) stands.owned;
}

-- runs with a span cover what the spans with it do
pub alike_with_span : (w : Timeline) (s : State) (span : Span) → StandsFor w s → Ascend w.runs → span.first ≤ span.last → CoverAlike s.floor (with_span span w.runs) (spans_of s ++ span ∷ [])
alike_with_span w s span stands ascend ordered list t le =
    covers_with_span list t span w.runs ordered ascend
    ∙ ap (λ b. covers list t span || b) (stands.alike list t le)
    ∙ sym (covers_push list t (spans_of s) span)

-- a change that hides a span
pub stands_took_span : (w : Timeline) (s : State) (a : Accepted) (span : Span) (runs : List Span) (chunks : List Chunk) (moment : ℕ) → a.moment ≡ moment → span_of a ≡ Some span → runs ≡ with_span span w.runs → span.first ≤ span.last → span.object < s.next → Ascend w.runs → StandsFor w s → StandsFor (after_change w moment w.window runs chunks) (took s a)
stands_took_span w s a span runs chunks moment at is planned ordered given ascend stands =
    let window : window_by a.change s.window ≡ s.window = span_leaves_window a.change span s.window is in
    let set : w.window ≡ window_by a.change s.window = stands.window ∙ sym window in
    let next : s.next ≤ next_by a.change s.next = next_by-grows a.change s.next in
    let P : List Span → Type 0 = λ xs. AllByRecursion (IsOfGiven (next_by a.change s.next)) xs in
    record {
      clock = sym at;
      window = set;
      floor = floor_after w.floor s.floor moment a.moment w.window (window_by a.change s.window) stands.floor (sym at) set;
      alike = λ list t le.
          ap (λ xs. list_any (covers list t) xs) planned
          ∙ alike_with_span w s span stands ascend ordered list t (omega arith)
          ∙ ap (λ xs. list_any (covers list t) xs) (sym (spans_took s a (Some span) is));
      owned = subst P (sym planned) (all_given s.next (next_by a.change s.next) (with_span span w.runs) next (all_with_span (IsOfGiven s.next) span w.runs (λ x y p q. p) given stands.owned));
    }

-- a state goes on being represented where the runs below the floor are left out
pub stands_later : (x later : Timeline) (t : State) → StandsFor x t → later.clock ≡ x.clock → later.window ≡ x.window → later.floor ≡ x.floor → later.runs ≡ filter (is_live later.floor) x.runs → StandsFor later t
stands_later x later t stands clock window floor is =
    let P : List Span → Type 0 = λ xs. AllByRecursion (IsOfGiven t.next) xs in
    let same : later.floor ≡ t.floor = floor ∙ stands.floor in
    record {
      clock = clock ∙ stands.clock;
      window = window ∙ stands.window;
      floor = same;
      alike = λ list m le. ap (λ xs. list_any (covers list m) xs) is ∙ covers_live later.floor list m x.runs (omega arith) ∙ stands.alike list m le;
      owned = subst P (sym is) (all_filter (IsOfGiven t.next) (is_live later.floor) x.runs stands.owned);
    }

-- a change that hides nothing, and what then falls below the floor
pub stands_changed : (w x later : Timeline) (s : State) (a : Accepted) (moment window : ℕ) → x.window ≡ window → x.floor ≡ w.floor → x.runs ≡ w.runs → HasMoved x later moment → a.moment ≡ moment → window ≡ window_by a.change s.window → span_of a ≡ None → StandsFor w s → StandsFor later (took s a)
stands_changed w x later s a moment window wide floor runs moved at set none stands =
    let by : later.floor ≡ max x.floor (moment - x.window) = moved.floor in
    stands_later (after_change w moment window w.runs w.chunks) later (took s a) (stands_took w s a moment window at set none stands) moved.clock (moved.window ∙ wide) (omega arith)
    (moved.runs ∙ ap (filter (is_live later.floor)) runs)

-- a moment seen
pub stands_seen : (w later : Timeline) (s : State) (now clock : ℕ) → HasMoved w later clock → clock ≡ max w.clock now → StandsFor w s → StandsFor later (seen s now)
stands_seen w later s now clock moved is stands =
    let P : List Span → Type 0 = λ xs. AllByRecursion (IsOfGiven s.next) xs in
    let c : w.clock ≡ s.clock = stands.clock in
    let v : w.window ≡ s.window = stands.window in
    let f : w.floor ≡ s.floor = stands.floor in
    let later_clock : later.clock ≡ clock = moved.clock in
    let later_floor : later.floor ≡ max w.floor (clock - w.window) = moved.floor in
    let by : later.floor ≡ max s.floor (max s.clock now - s.window) = omega arith in
    record {
      clock = omega arith;
      window = moved.window ∙ stands.window;
      floor = by;
      alike = λ list m le. ap (λ xs. list_any (covers list m) xs) moved.runs ∙ covers_live later.floor list m w.runs (omega arith) ∙ stands.alike list m (omega arith);
      owned = subst P (sym moved.runs) (all_filter (IsOfGiven s.next) (is_live later.floor) w.runs stands.owned);
    }

covered_alike : (floor list t : ℕ) (xs ys : List Span) → CoverAlike floor xs ys → is_covered floor xs list t ≡ is_covered floor ys list t
covered_alike floor list t xs ys alike = elim (cases_Bool (nat_le floor t)) [
  | inl above ↦ ap (λ b. nat_le floor t && b) (alike list t (leb-true _ _ above))
  | inr under ↦ and_left (nat_le floor t) (list_any (covers list t) xs) under ∙ sym (and_left (nat_le floor t) (list_any (covers list t) ys) under)
]

-- the runs with a span are too many exactly where the spans with it are
pub too_many_is : (w : Timeline) (s : State) (span : Span) → StandsFor w s → Ascend w.runs → AllEndBy w.clock w.runs → span.first ≤ span.last → span.last ≤ w.clock → span.object < s.next
    → is_one_span_too_many s span ≡ (nat_lt RUNS_IN_A_LIST (count_by (is_live_in w.floor span.object) (with_span span w.runs)) || nat_lt RUNS_IN_ALL (count_by (is_live w.floor) (with_span span w.runs)))
unfolding is_one_span_too_many
too_many_is w s span stands ascend ends ordered past given =
    let runs : List Span = with_span span w.runs in
    let spans : List Span = spans_of s ++ span ∷ [] in
    let alike : CoverAlike s.floor runs spans = alike_with_span w s span stands ascend ordered in
    let in_order : Ascend runs = Ascend-with_span span w.runs ordered ascend in
    let by : AllEndBy w.clock runs = all_with_span (λ run. run.last ≤ w.clock) span w.runs (λ x y p q. omega arith) past ends in
    let owned : AllByRecursion (IsOfGiven s.next) runs = all_with_span (IsOfGiven s.next) span w.runs (λ x y p q. p) given stands.owned in
    let in_list : run_count (is_covered s.floor spans span.object) s.clock ≡ count_by (is_live_in w.floor span.object) runs =
    run_count-same (is_covered s.floor spans span.object) (is_covered s.floor runs span.object) s.clock (λ t. sym (covered_alike s.floor span.object t runs spans alike))
    ∙ ap (λ f. run_count (is_covered f runs span.object) s.clock) (sym stands.floor)
    ∙ ap (λ c. run_count (is_covered w.floor runs span.object) c) (sym stands.clock)
    ∙ count_live w.floor span.object w.clock runs in_order by in
    let in_all : run_count_of_all s.floor spans s.clock s.next ≡ count_by (is_live w.floor) runs =
    run_count_of_all-same s.floor s.clock s.next spans runs (λ list t. sym (covered_alike s.floor list t runs spans alike))
    ∙ ap (λ f. run_count_of_all f runs s.clock s.next) (sym stands.floor)
    ∙ ap (λ c. run_count_of_all w.floor runs c s.next) (sym stands.clock)
    ∙ count_live_of_all w.floor w.clock s.next runs in_order by owned in
    ap (λ n. nat_lt RUNS_IN_A_LIST n || nat_lt RUNS_IN_ALL (run_count_of_all s.floor spans s.clock s.next)) in_list
    ∙ ap (λ n. nat_lt RUNS_IN_A_LIST (count_by (is_live_in w.floor span.object) runs) || nat_lt RUNS_IN_ALL n) in_all

-- from the floor on, a moment is hidden where the runs of all objects or the object's own cover it
pub hidden_is : (w : Timeline) (s : State) (o t : ℕ) → StandsFor w s → s.floor ≤ t → is_hidden s o t ≡ (list_any (covers 0 t) w.runs || list_any (covers o t) w.runs)
hidden_is w s o t stands le =
    any_hides o t (spans_of s)
    ∙ ap (λ b. b || list_any (covers o t) (spans_of s)) (sym (stands.alike 0 t le))
    ∙ ap (λ b. list_any (covers 0 t) w.runs || b) (sym (stands.alike o t le))

-- what the runs of a window keep
abbrev pub AreKept : Timeline → Type 0
AreKept w = Ascend w.runs × AllEndBy w.clock w.runs

-- the runs of a window with a planned span
abbrev pub runs_by : Timeline → Plan → List Span
runs_by w plan = flat (chunks_by w plan)

-- are in order, past and numbered
pub planned_kept : (w : Timeline) (plan : Plan) → IsMade w plan → AreKept w → AllNumbered w.runs → Ascend (runs_by w plan) × AllEndBy w.clock (runs_by w plan) × AllNumbered (runs_by w plan)
planned_kept w plan made kept numbered =
    let P : List Span → Type 0 = λ xs. Ascend xs × AllEndBy w.clock xs × AllNumbered xs in
    let whole : List Span = with_span plan.span w.runs in
    subst P (sym made.runs) (
      Ascend-filter (is_live w.floor) whole (Ascend-with_span plan.span w.runs made.ordered kept.0),
      all_filter (λ run. run.last ≤ w.clock) (is_live w.floor) whole (all_with_span (λ run. run.last ≤ w.clock) plan.span w.runs (λ x y p q. omega arith) made.past kept.1),
      all_filter (λ run. run.object < 2 ^ 64) (is_live w.floor) whole (all_with_span (λ run. run.object < 2 ^ 64) plan.span w.runs (λ x y p q. p) made.numbered numbered),
    )

-- a plan that is carried out, and what then falls below the floor
pub stands_flushed : (w x later : Timeline) (s : State) (a : Accepted) (plan : Plan) (moment : ℕ) → x.window ≡ w.window → x.floor ≡ w.floor → x.runs ≡ runs_by w plan → HasMoved x later moment → a.moment ≡ moment → span_of a ≡ Some plan.span → IsMade w plan → plan.span.object < s.next → AreKept w → StandsFor w s → StandsFor later (took s a)
stands_flushed w x later s a plan moment window floor runs moved at is made given kept stands =
    let all : List Span = with_span plan.span w.runs in
    let later_floor : later.floor ≡ max x.floor (moment - x.window) = moved.floor in
    let whole : StandsFor (after_change w moment w.window all w.chunks) (took s a) = stands_took_span w s a plan.span all w.chunks moment at is refl made.ordered given kept.0 stands in
    stands_later (after_change w moment w.window all w.chunks) later (took s a) whole moved.clock (moved.window ∙ window) (omega arith)
    (moved.runs ∙ ap (filter (is_live later.floor)) (runs ∙ made.runs) ∙ live_twice w.floor later.floor all (omega arith))

-- a planned span is too much exactly where the model says
pub made_too_many : (w : Timeline) (s : State) (plan : Plan) → StandsFor w s → AreKept w → IsMade w plan → plan.span.object < s.next → is_one_span_too_many s plan.span ≡ (nat_lt RUNS_IN_A_LIST plan.own || nat_lt RUNS_IN_ALL plan.count)
made_too_many w s plan stands kept made given =
    let all : List Span = with_span plan.span w.runs in
    let own : count_by (is_live_in w.floor plan.span.object) all ≡ plan.own =
    sym (count_live_in w.floor plan.span.object all) ∙ ap (count_by (is_live_in w.floor plan.span.object)) (sym made.runs) ∙ sym made.own in
    let count : count_by (is_live w.floor) all ≡ plan.count = sym (length-filter (is_live w.floor) all) ∙ ap (λ (xs : List Span). length xs) (sym made.runs) ∙ sym made.count in
    too_many_is w s plan.span stands kept.0 kept.1 made.ordered made.past given
    ∙ ap (λ n. nat_lt RUNS_IN_A_LIST n || nat_lt RUNS_IN_ALL (count_by (is_live w.floor) all)) own
    ∙ ap (λ n. nat_lt RUNS_IN_A_LIST plan.own || nat_lt RUNS_IN_ALL n) count

-- so where it is judged
pub refused_where : (w : Timeline) (s : State) (plan : Plan) → StandsFor w s → AreKept w → IsMade w plan → plan.span.object < s.next → (RUNS_IN_A_LIST < plan.own) ⊎ ((plan.own ≤ RUNS_IN_A_LIST) × (RUNS_IN_ALL < plan.count)) → is_one_span_too_many s plan.span ≡ true
refused_where w s plan stands kept made given more =
    made_too_many w s plan stands kept made given ∙ elim more as (λ _. (nat_lt RUNS_IN_A_LIST plan.own || nat_lt RUNS_IN_ALL plan.count) ≡ true) [
      | inl own ↦ or_left (nat_lt RUNS_IN_A_LIST plan.own) (nat_lt RUNS_IN_ALL plan.count) (lt-ltb _ _ own)
      | inr all ↦ or_right (nat_lt RUNS_IN_A_LIST plan.own) (nat_lt RUNS_IN_ALL plan.count) (lt-ltb _ _ all.1)
    ]

pub accepted_where : (w : Timeline) (s : State) (plan : Plan) → StandsFor w s → AreKept w → IsMade w plan → plan.span.object < s.next → plan.own ≤ RUNS_IN_A_LIST → plan.count ≤ RUNS_IN_ALL → is_one_span_too_many s plan.span ≡ false
accepted_where w s plan stands kept made given own count =
    made_too_many w s plan stands kept made given ∙ or_from (nat_lt RUNS_IN_A_LIST plan.own) (nat_lt RUNS_IN_ALL plan.count) (le-ltb _ _ own) (le-ltb _ _ count)

-- what a plan that can only want memory tells
pub judged_by : (r : Result Plan Refusal) (s : State) (span : Span) → is_one_span_too_many s span ≡ false → IfErr r (λ refusal. refusal ≡ NoMemory) → MatchResult r (λ _. is_one_span_too_many s span ≡ false) (λ refusal. (refusal ≡ NoMemory) ⊎ ((refusal ≡ TooManySpans) × (is_one_span_too_many s span ≡ true)))
judged_by (Ok plan) s span few err = few
judged_by (Err refusal) s span few err = inl err

or_first : (a b : Bool) → a ≡ true → a ≡ (a || b)
or_first true b e = refl
or_first false b e = absurd (false≢true e)

or_second : (a b : Bool) → a ≡ false → b ≡ (a || b)
or_second true b e = absurd (false≢true (sym e))
or_second false b e = refl

-- what looking into the two lists answers
pub hidden_first : (w : Timeline) (s : State) (o t nought : ℕ) (runs : List Span) (a : Bool) → StandsFor w s → s.floor ≤ t → nought ≡ 0 → runs ≡ w.runs → a ≡ list_any (covers nought t) runs → a ≡ true → a ≡ is_hidden s o t
hidden_first w s o t nought runs a stands le z e is found =
    or_first a (list_any (covers o t) w.runs) found
    ∙ ap (λ b. b || list_any (covers o t) w.runs) (is ∙ ap (λ n. list_any (covers n t) runs) z ∙ ap (λ xs. list_any (covers 0 t) xs) e)
    ∙ sym (hidden_is w s o t stands le)

pub hidden_second : (w : Timeline) (s : State) (o t nought : ℕ) (runs : List Span) (a b : Bool) → StandsFor w s → s.floor ≤ t → nought ≡ 0 → runs ≡ w.runs → a ≡ list_any (covers nought t) runs → a ≡ false → b ≡ list_any (covers o t) runs → b ≡ is_hidden s o t
hidden_second w s o t nought runs a b stands le z e is none own =
    or_second a b none
    ∙ ap (λ x. x || b) (is ∙ ap (λ n. list_any (covers n t) runs) z ∙ ap (λ xs. list_any (covers 0 t) xs) e)
    ∙ ap (λ x. list_any (covers 0 t) w.runs || x) (own ∙ ap (λ xs. list_any (covers o t) xs) e)
    ∙ sym (hidden_is w s o t stands le)
