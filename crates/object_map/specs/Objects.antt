-- A map of objects, seen as the list of its rows and the list of the values beside them, each by ascending object.
use Rattle.std.specs.Prelude.{◌≡◌, ℕ, ◌==◌, ◌<◌, if◌then◌else◌, List, [], ◌∷◌, ◌++◌, map, Option, Some, None, IsSome, option_map}
use Rattle.std.specs.List.{All}
use Rattle.std.specs.Map.{lookup}
use Rattle.std.specs.Global.{Box}
use Rattle.std.specs.BTreeMap.{is_at}
use Rattle.std.specs.Ordering.{nat_cmp}
use Rattle.object_map.specs.declared.map.Row.{Row}
use Rattle.object_map.specs.declared.map.Kept.{Kept}

-- the value of an object
abbrev pub value_of : {V : Type 0} → List (ℕ × V) → ℕ → Option V
value_of values o = lookup (is_at (nat_cmp o)) values

-- the values, where one of them is this object's
abbrev pub with_value : {V : Type 0} → (ℕ → Option V) → ℕ → V → ℕ → Option V
with_value values o value = λ q. if o == q then Some value else values q

-- the values without one object's
abbrev pub without_value : {V : Type 0} → (ℕ → Option V) → ℕ → ℕ → Option V
without_value values o = λ q. if o == q then None else values q

-- an object has this value, and all others have what they had
abbrev pub PutsAt : {V : Type 0} → List (ℕ × V) → ℕ → V → List (ℕ × V) → Type 0
PutsAt values o value later = (q : ℕ) → value_of later q ≡ with_value (value_of values) o value q

-- all objects that have values are below this one
abbrev pub AreBelow : {V : Type 0} → List (ℕ × V) → ℕ → Type 0
AreBelow values o = All (λ e. e.0 < o) values

-- there is a value of an object above another, and none between
pub record IsNextAbove {V : Type 0} (values : List (ℕ × V)) (o next : ℕ) : Type 0 where
  pub above : o < next
  pub there : IsSome (value_of values next)
  pub least : (q : ℕ) → o < q → q < next → value_of values q ≡ None

-- what a map keeps: rows, and a value beside each
pub record MapOf (V : Type 0) : Type 0 where
  pub rows : List (ℕ × Row)
  pub values : List (ℕ × V)

-- what is kept of objects, each out of its box
abbrev pub unboxed : {X : Type 0} → List (ℕ × Box X) → List (ℕ × X)
unboxed boxes = map (λ e. (e.0, e.1.value)) boxes

-- the two lists of what is kept of objects
abbrev pub parts_of : {V : Type 0} → List (ℕ × Kept V) → MapOf V
parts_of objects = record { rows = map (λ e. (e.0, e.1.row)) objects; values = map (λ e. (e.0, e.1.value)) objects }

-- what is found of an object is its row and the value beside it, and nothing where it has neither
pub record IsKeptOf {V : Type 0} (m : MapOf V) (o : ℕ) (found : Option (Kept V)) : Type 0 where
  pub row : option_map (λ k. k.row) found ≡ value_of m.rows o
  pub value : option_map (λ k. k.value) found ≡ value_of m.values o

-- an object has this row and this value, and all others are as they were
pub record Puts {V : Type 0} (m : MapOf V) (o : ℕ) (row : Row) (value : V) (n : MapOf V) : Type 0 where
  pub rows : PutsAt m.rows o row n.rows
  pub values : PutsAt m.values o value n.values

-- an object's row comes after all other rows, and its value after all other values
pub record PutsBehind {V : Type 0} (m : MapOf V) (o : ℕ) (row : Row) (value : V) (n : MapOf V) : Type 0 where
  pub rows : n.rows ≡ m.rows ++ (o, row) ∷ []
  pub values : n.values ≡ m.values ++ (o, value) ∷ []

-- an object has this row; all other rows, and all values, are as they were
pub record PutsRow {V : Type 0} (m : MapOf V) (o : ℕ) (row : Row) (n : MapOf V) : Type 0 where
  pub rows : PutsAt m.rows o row n.rows
  pub values : (q : ℕ) → value_of n.values q ≡ value_of m.values q

-- an object has neither row nor value, and all others are as they were
pub record Removes {V : Type 0} (m : MapOf V) (o : ℕ) (n : MapOf V) : Type 0 where
  pub rows : (q : ℕ) → value_of n.rows q ≡ without_value (value_of m.rows) o q
  pub values : (q : ℕ) → value_of n.values q ≡ without_value (value_of m.values) o q
