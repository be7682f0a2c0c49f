-- Runs of hidden moments in one list: each is a span, of all objects under number 0 or of one object.
use Rattle.std.specs.Prelude.{◌≡◌, ℕ, Bool, true, false, ◌==◌, ◌&&◌, ◌||◌, ◌-◌, ◌^◌, ◌≤◌, nat_le, nat_lt, min, max, count_by, if◌then◌else◌, List, [], ◌∷◌}
use Rattle.std.specs.List.{list_any, AllByRecursion}
use Rattle.s4_types.specs.declared.spans.Span.{Span}
use Rattle.s4_types.specs.declared.limits.TheConstants.{RUNS_IN_A_LIST}
use Rattle.s4_model.specs.Visible.{is_within}
use Rattle.s4_model.specs.Sound.{EndsBefore}

-- whether a run is of this list and has the moment in it
abbrev pub covers : ℕ → ℕ → Span → Bool
covers list t run = run.object == list && is_within run t

-- Whether one run is before another: its list is, or both are of one list and a moment is left out
-- between them.
abbrev pub is_before : Span → Span → Bool
is_before x y = nat_lt x.object y.object || (x.object == y.object && nat_lt 1 (y.first - x.last))

abbrev pub IsBeforeAll : Span → List Span → Type 0
IsBeforeAll x runs = AllByRecursion (λ y. is_before x y ≡ true) runs

-- runs in order: none ends before it begins, and each is before all that follow
abbrev pub Ascend : List Span → Type 0
Ascend [] = Unit {0}
Ascend (x ∷ runs) = (x.first ≤ x.last) × IsBeforeAll x runs × Ascend runs

-- no run ends before a moment
abbrev pub AllEndFrom : ℕ → List Span → Type 0
AllEndFrom from runs = AllByRecursion (λ run. from ≤ run.last) runs

-- no run begins before a moment
abbrev pub AllBeginFrom : ℕ → List Span → Type 0
AllBeginFrom from runs = AllByRecursion (λ run. from ≤ run.first) runs

-- all runs end before a moment
abbrev pub AllEndBefore : ℕ → List Span → Type 0
AllEndBefore clock runs = AllByRecursion (EndsBefore clock) runs

-- the earliest end of these runs, or the last moment where there is none
abbrev pub earliest : List Span → ℕ
earliest [] = 2 ^ 64 - 1
earliest (run ∷ runs) = min run.last (earliest runs)

-- the one run that two make which overlap or touch
abbrev pub joined_span : Span → Span → Span
joined_span x y = record { object = x.object; first = min x.first y.first; last = max x.last y.last }

-- runs in order with one more span, which is joined with those that it overlaps or touches
abbrev pub with_span : Span → List Span → List Span
with_span span [] = span ∷ []
with_span span (run ∷ runs) =
    if is_before run span then run ∷ with_span span runs else (if is_before span run then span ∷ run ∷ runs else with_span (joined_span span run) runs)

-- a run reaches up to the floor at least
abbrev pub is_live : ℕ → Span → Bool
is_live floor run = nat_le floor run.last

-- a run of this list does
abbrev pub is_live_in : ℕ → ℕ → Span → Bool
is_live_in floor list run = run.object == list && nat_le floor run.last

-- whether a run is of this list
abbrev pub span_is_of : ℕ → Span → Bool
span_is_of list run = run.object == list

-- no list has more runs than a list may have
abbrev pub AreFewInEachList : List Span → Type 0
AreFewInEachList runs = (list : ℕ) → count_by (span_is_of list) runs ≤ RUNS_IN_A_LIST

-- a run that reaches a floor, without its moments below it
abbrev pub cut : ℕ → Span → Span
cut floor run = record { object = run.object; first = max run.first floor; last = run.last }

-- whether some of these runs, of whatever list, has the moment in it
abbrev pub cover : List Span → ℕ → Bool
cover runs t = list_any (λ run. is_within run t) runs

-- no run begins after one that follows
abbrev pub BeginInOrder : List Span → Type 0
BeginInOrder [] = Unit {0}
BeginInOrder (x ∷ runs) = AllByRecursion (λ y. x.first ≤ y.first) runs × BeginInOrder runs

-- some moment from one to another is in no run of two lists
pub record IsLeft (all own : List Span) (from to : ℕ) : Type 0 where
  pub moment : ℕ
  pub begun : from ≤ moment
  pub ended : moment ≤ to
  pub not_in_all : cover all moment ≡ false
  pub not_in_own : cover own moment ≡ false
