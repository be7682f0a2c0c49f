-- The log of a drive: what was changed in it, and which moments are hidden.
use Rattle.std.specs.Prelude.{◌≡◌, ℕ, ◌<◌, ◌++◌, ◌==◌, ◌&&◌, ◌||◌, nat_le, false, true, if◌then◌else◌, Bool, List, [], ◌∷◌, map, filter, take, reverse, Option, Some, None, option_to_list}
use Rattle.std.specs.List.{flat_map}
use Rattle.s4_types.specs.declared.spans.Span.{Span}
use Rattle.s4_model.specs.State.{State}
use Rattle.s4_model.specs.Visible.{spans_of}
use Rattle.object_map.specs.Objects.{IsNextAbove}
use Rattle.object_map.specs.Rows.{row_of}
use Rattle.version_store.specs.Store.{StoreFields}
use Rattle.window.specs.Runs.{Ascend, AllBeginFrom}
use Rattle.window.specs.Timeline.{CoverAlike}
use Rattle.history_view.specs.declared.rows.LogRow.{LogRow}
use Rattle.history_view.specs.declared.rows.LogRow.TheVariants.{Changed, Hidden}
use Rattle.history_view.specs.declared.stats.ObjectStat.{ObjectStat}
use Rattle.history_view.specs.declared.logs.LogQuery.{LogQuery}
use Rattle.history_view.specs.Changes.{changes_between}
use Rattle.history_view.specs.LogRows.{IsInOrder, of_kind, limited, stat_of}

-- These are all objects above one that have a row, by ascending number.
abbrev pub AreRowsFrom : StoreFields → ℕ → List ℕ → Type 0
AreRowsFrom store after [] = (o : ℕ) → after < o → row_of store.rows o ≡ None
AreRowsFrom store after (o ∷ objects) = IsNextAbove store.rows after o × AreRowsFrom store o objects

-- the objects that are asked for: the one, or all that have a row
abbrev pub AreAsked : StoreFields → Option ℕ → List ℕ → Type 0
AreAsked store None objects = AreRowsFrom store 0 objects
AreAsked store (Some o) objects = objects ≡ o ∷ []

-- the rows of an object's changes between two moments
abbrev pub rows_of : State → StoreFields → ℕ → ℕ → ℕ → List LogRow
rows_of s store since until o = map (Changed o) (changes_between s store o since until)

-- The runs hide the moments that the drive's history hides, from the floor on, and each is as long as it can be.
pub record AreHidden (s : State) (runs : List Span) : Type 0 where
  pub alike : CoverAlike s.floor runs (spans_of s)
  pub from_floor : AllBeginFrom s.floor runs
  pub ordered : Ascend runs

-- whether a run of an object, or of all under number 0, hides moments of the object that is asked for, or of any where all are
abbrev pub concerns : Option ℕ → ℕ → Bool
concerns None o = true
concerns (Some asked) o = o == 0 || o == asked

-- whether a run hides moments that are asked for
abbrev pub cuts : Option ℕ → ℕ → ℕ → Span → Bool
cuts asked since until run = (nat_le run.first until && nat_le since run.last) && concerns asked run.object

-- The rows are those of the runs of hidden moments that cut a log, and then those of its changes.
pub record IsWithHidden (s : State) (query : LogQuery) (changes rows : List LogRow) : Type 0 where
  pub runs : List Span
  pub hidden : AreHidden s runs
  pub are : rows ≡ map Hidden (filter (cuts query.object query.since query.until) runs) ++ changes

-- Of these rows those are shown that are of the kind, up to the limit, in the order that is asked for.
pub record IsShown (query : LogQuery) (rows shown : List LogRow) : Type 0 where
  pub ordered : List LogRow
  pub in_order : IsInOrder query.order rows ordered
  pub is : shown ≡ limited query.limit (of_kind query.kind false ordered)

-- The rows are the log that is asked for: all changes of the objects between the two moments, and all runs of hidden moments that cut
-- them, but what isn't shown.
pub record ShowsLog (s : State) (store : StoreFields) (query : LogQuery) (rows : List LogRow) : Type 0 where
  pub objects : List ℕ
  pub asked : AreAsked store query.object objects
  pub all : List LogRow
  pub with_hidden : IsWithHidden s query (flat_map (rows_of s store query.since query.until) objects) all
  pub shown : IsShown query all rows

-- what the changes of an object come to that are asked for, if there are any
abbrev pub stat_in : State → StoreFields → LogQuery → ℕ → Option ObjectStat
stat_in s store query o = stat_of o (of_kind query.kind false (rows_of s store query.since query.until o))

-- the list, or its reverse
abbrev pub turned : Bool → List ObjectStat → List ObjectStat
turned is_reversed stats = if is_reversed then reverse stats else stats

-- the first of a list where there is a limit, and else all
abbrev pub at_most : Option ℕ → List ObjectStat → List ObjectStat
at_most None stats = stats
at_most (Some limit) stats = take limit stats

-- what the log that is asked for comes to: each object that has changes in it once, by ascending number or by descending
pub record ShowsStats (s : State) (store : StoreFields) (query : LogQuery) (stats : List ObjectStat) : Type 0 where
  pub objects : List ℕ
  pub asked : AreAsked store query.object objects
  pub shown : stats ≡ at_most query.limit (turned query.order.is_reversed (flat_map (λ o. option_to_list (stat_in s store query o)) objects))
