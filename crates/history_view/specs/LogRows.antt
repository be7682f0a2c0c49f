-- The rows of a log: changes of objects and runs of hidden moments, their order, and which of them are shown.
use Rattle.std.specs.Prelude.{◌≡◌, ℕ, ◌-◌, ◌^◌, ◌==◌, ◌&&◌, if◌then◌else◌, MatchBool, Bool, true, false, not, List, [], ◌∷◌, Option, Some, None, count_by}
use Rattle.std.specs.List.Sorted.{IsPermutation, IsNonDecreasingBy, IsStableByKey}
use Rattle.std.specs.Ordering.{nat_cmp}
use Rattle.history_view.specs.declared.changes.Kind.{Kind}
use Rattle.history_view.specs.declared.changes.Kind.TheVariants.{Made, Deleted, Continued, Attribute, Cut, Written, Lengthened, Touched}
use Rattle.history_view.specs.declared.rows.LogRow.{LogRow}
use Rattle.history_view.specs.declared.rows.LogRow.TheVariants.{Changed, Hidden}
use Rattle.history_view.specs.declared.rows.LogOrder.{LogOrder}
use Rattle.history_view.specs.declared.stats.KindCounts.{KindCounts}
use Rattle.history_view.specs.declared.stats.ObjectStat.{ObjectStat}

-- the moment that a row begins at
abbrev pub moment_of : LogRow → ℕ
moment_of (Changed o change) = change.moment
moment_of (Hidden run) = run.first

-- the object that a row is of, 0 where it is of all
abbrev pub object_of : LogRow → ℕ
object_of (Changed o change) = o
object_of (Hidden run) = run.object

-- ---- the order of rows

-- a number as it counts where what is least comes first, or what is greatest
abbrev pub rank : Bool → ℕ → ℕ
rank is_reversed n = if is_reversed then (2 ^ 64 - 1) - n else n

-- what a row is ordered by: its object or its moment
abbrev pub place : Bool → Bool → LogRow → ℕ
place by_object is_reversed row = rank is_reversed (if by_object then object_of row else moment_of row)

-- The rows are those, by ascending number. Those of one number have the order that they had.
pub record IsOrderedBy (number : LogRow → ℕ) (rows ordered : List LogRow) : Type 0 where
  pub same : IsPermutation rows ordered
  pub rising : IsNonDecreasingBy number ordered
  pub stable : IsStableByKey number nat_cmp rows ordered

-- The rows are in order of time, the latest moment first where they are reversed.
abbrev pub IsByTime : Bool → List LogRow → List LogRow → Type 0
IsByTime is_reversed rows ordered = IsOrderedBy (λ row. rank is_reversed (moment_of row)) rows ordered

-- The rows are in order of their objects, and those of an object in order of time.
pub record IsByObject (is_reversed : Bool) (rows ordered : List LogRow) : Type 0 where
  pub timeline : List LogRow
  pub by_time : IsByTime is_reversed rows timeline
  pub by_object : IsOrderedBy (λ row. rank is_reversed (object_of row)) timeline ordered

-- the rows are in the order that is asked for
abbrev pub IsInOrder : LogOrder → List LogRow → List LogRow → Type 0
IsInOrder order rows ordered = MatchBool order.by_object (IsByObject order.is_reversed rows ordered) (IsByTime order.is_reversed rows ordered)

-- ---- which rows are shown

-- whether two kinds are one
abbrev pub is_kind : Kind → Kind → Bool
is_kind Made Made = true
is_kind Deleted Deleted = true
is_kind Continued Continued = true
is_kind Attribute Attribute = true
is_kind Cut Cut = true
is_kind Written Written = true
is_kind Lengthened Lengthened = true
is_kind Touched Touched = true
is_kind asked kind = false

-- whether a change of a kind passes where this kind is asked for: one that goes on with the change before it does where that did
abbrev pub passes_kind : Option Kind → Bool → Kind → Bool
passes_kind None has_passed kind = true
passes_kind (Some asked) has_passed Continued = has_passed
passes_kind (Some asked) has_passed kind = is_kind asked kind

-- whether a row passes. A run of hidden moments does, whatever kind is asked for.
abbrev pub passes : Option Kind → Bool → LogRow → Bool
passes asked has_passed (Changed o change) = passes_kind asked has_passed change.kind
passes asked has_passed (Hidden run) = true

-- the rows that pass, given whether the row before them did
abbrev pub of_kind : Option Kind → Bool → List LogRow → List LogRow
of_kind asked has_passed [] = []
of_kind asked has_passed (row ∷ rows) = if passes asked has_passed row then row ∷ of_kind asked true rows else of_kind asked false rows

-- whether a row begins a change, and doesn't go on with one
abbrev pub begins : LogRow → Bool
begins (Changed o change) = not (is_kind change.kind Continued)
begins (Hidden run) = false

-- whether a row goes on with the change before it
abbrev pub goes_on : LogRow → Bool
goes_on (Changed o change) = is_kind change.kind Continued
goes_on (Hidden run) = false

-- The first rows, up to this many changes, the last of them with all its rows.
abbrev pub first_changes : ℕ → List LogRow → List LogRow
first_changes left [] = []
first_changes left (row ∷ rows) = if (left == 0) && not (goes_on row) then [] else row ∷ first_changes (if begins row then left - 1 else left) rows

-- the same where there is a limit, and else all rows
abbrev pub limited : Option ℕ → List LogRow → List LogRow
limited None rows = rows
limited (Some limit) rows = first_changes limit rows

-- ---- what comes to an object

-- whether a row is a change of this kind
abbrev pub is_of : Kind → LogRow → Bool
is_of kind (Changed o change) = is_kind kind change.kind
is_of kind (Hidden run) = false

-- how many of these rows are changes of each kind
abbrev pub kinds_in : List LogRow → KindCounts
kinds_in rows = record {
  made = count_by (is_of Made) rows;
  deleted = count_by (is_of Deleted) rows;
  attribute = count_by (is_of Attribute) rows;
  cut = count_by (is_of Cut) rows;
  written = count_by (is_of Written) rows;
  lengthened = count_by (is_of Lengthened) rows;
  touched = count_by (is_of Touched) rows;
}

-- the moment of the last of these rows; the one given where there is none
abbrev pub last_moment : ℕ → List LogRow → ℕ
last_moment given [] = given
last_moment given (row ∷ rows) = last_moment (moment_of row) rows

-- what these rows of an object come to; nothing where there are none
abbrev pub stat_of : ℕ → List LogRow → Option ObjectStat
stat_of o [] = None
stat_of o (row ∷ rows) = Some (record { object = o; changes = count_by begins (row ∷ rows); kinds = kinds_in (row ∷ rows); first = moment_of row; last = last_moment (moment_of row) rows })
