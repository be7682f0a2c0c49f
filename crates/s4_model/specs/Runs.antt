-- The runs of hidden moments, by which lists of spans are counted.
use Rattle.std.specs.Prelude.{ℕ, Bool, not, ◌==◌, ◌&&◌, ◌+◌, ◌-◌, nat_le, nat_lt, List, filter, count_by, sum_by}
use Rattle.std.specs.List.{list_any, range_with_len, zip}
use Rattle.s4_types.specs.declared.spans.Span.{Span}
use Rattle.s4_model.specs.Visible.{is_within}

-- Whether a list of spans covers the moment: the list of all objects is number 0, each object has its own.
-- What lies below the floor is lost.
abbrev pub is_covered : ℕ → List Span → ℕ → ℕ → Bool
is_covered floor spans list t = nat_le floor t && list_any (λ span. span.object == list && is_within span t) spans

-- whether a run of a set of moments begins here: the moment before isn't in the set
abbrev pub is_first : (ℕ → Bool) → ℕ → Bool
is_first set t = set t && not (nat_lt 0 t && set (t - 1))

-- whether a run ends here
abbrev pub is_last : (ℕ → Bool) → ℕ → Bool
is_last set t = set t && not (set (t + 1))

-- the maximal runs of a set of moments up to the clock, each with its first and its last moment, ascending
abbrev pub runs_of : (ℕ → Bool) → ℕ → List (ℕ × ℕ)
runs_of set clock = zip (filter (is_first set) (range_with_len 0 (clock + 1))) (filter (is_last set) (range_with_len 0 (clock + 1)))

-- how many maximal runs a set of moments has up to the clock: as many as begin
abbrev pub run_count : (ℕ → Bool) → ℕ → ℕ
run_count set clock = count_by (is_first set) (range_with_len 0 (clock + 1))

-- how many runs all lists have together: that of all objects, and those of the objects below next
abbrev pub run_count_of_all : ℕ → List Span → ℕ → ℕ → ℕ
run_count_of_all floor spans clock next = sum_by (λ list. run_count (is_covered floor spans list) clock) (range_with_len 0 next)
