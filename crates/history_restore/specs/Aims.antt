-- Under which numbers objects are restored: their own, or those under which they were made anew.
use Rattle.std.specs.Prelude.{◌≡◌, ℕ, ◌==◌, ◌&&◌, not, if◌then◌else◌, Bool, List, [], ◌∷◌, map, filter}
use Rattle.std.specs.List.{list_any}
use Rattle.s4_model.specs.State.{State}
use Rattle.s4_model.specs.VersionAt.{version_of}
use Rattle.s4_model.specs.Refusals.{present, is_absent}
use Rattle.version_store.specs.Store.{StoreFields}
use Rattle.history_view.specs.Logs.{AreRowsFrom}
use Rattle.history_restore.specs.declared.aims.Aim.{Aim}
use Rattle.history_restore.specs.declared.aims.StandIn.{StandIn}
use Rattle.history_restore.specs.Rows.{is_among}

-- the numbers under which objects are restored
abbrev pub targets_of : List Aim → List ℕ
targets_of aims = map (λ (a : Aim). a.target) aims

-- an object under its own number
abbrev pub own_aim : ℕ → Aim
own_aim o = record { object = o; target = o }

-- whether an object is there
abbrev pub is_there : State → ℕ → Bool
is_there s o = not (is_absent (present s o))

-- whether it was there at a moment
abbrev pub was_there : State → ℕ → ℕ → Bool
was_there s o at = not (is_absent (version_of s o at))

-- Whether a stand-in counts: its object was there at the moment and isn't any more, and what was made anew for it is there.
abbrev pub counts : State → ℕ → StandIn → Bool
counts s at l = (was_there s l.object at && not (is_there s l.object)) && is_there s l.number

-- the stand-ins that count
abbrev pub counting : State → ℕ → List StandIn → List StandIn
counting s at stand_ins = filter (counts s at) stand_ins

-- whether an object has a stand-in among these
abbrev pub has_stand_in : List StandIn → ℕ → Bool
has_stand_in stand_ins o = list_any (λ (l : StandIn). l.object == o) stand_ins

-- the object that a number is the stand-in of, by the first of these that says so; the number's own where none does
abbrev pub object_for : List StandIn → ℕ → ℕ
object_for [] n = n
object_for (l ∷ stand_ins) n = if l.number == n then l.object else object_for stand_ins n

abbrev pub aim_by : List StandIn → ℕ → Aim
aim_by stand_ins n = record { object = object_for stand_ins n; target = n }

-- The aims of rows: one that is a stand-in has the aim of its object, and one that has a stand-in none of its own.
abbrev pub aims_by : List StandIn → List ℕ → List Aim
aims_by stand_ins rows = map (aim_by stand_ins) (filter (λ (o : ℕ). not (has_stand_in stand_ins o)) rows)

-- These are the aims of all objects of a drive that have a row, by the ascending numbers under which they are restored.
pub record AreAims (s : State) (store : StoreFields) (at : ℕ) (stand_ins : List StandIn) (aims : List Aim) : Type 0 where
  pub rows : List ℕ
  pub all : AreRowsFrom store 0 rows
  pub aims_are : aims ≡ aims_by (counting s at stand_ins) rows

-- whether an aim is of an object that is asked for
abbrev pub is_asked : List ℕ → Aim → Bool
is_asked asked a = is_among asked a.object

-- These are the aims of those objects that are asked for.
pub record AreAskedAims (s : State) (store : StoreFields) (at : ℕ) (stand_ins : List StandIn) (asked : List ℕ) (aims : List Aim) : Type 0 where
  pub whole : List Aim
  pub all : AreAims s store at stand_ins whole
  pub chosen : aims ≡ filter (is_asked asked) whole

-- whether an aim is restored under a number that isn't skipped
abbrev pub is_not_skipped : List ℕ → Aim → Bool
is_not_skipped skipped a = not (is_among skipped a.target)
