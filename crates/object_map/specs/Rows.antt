-- The rows of objects.
use Rattle.std.specs.Prelude.{ℕ, List, [], Option, None}
use Rattle.object_map.specs.declared.map.Row.{Row}
use Rattle.object_map.specs.Objects.{value_of, with_value, without_value}

-- the row of an object
abbrev pub row_of : List (ℕ × Row) → ℕ → Option Row
row_of rows o = value_of rows o

-- the rows, where one of them is this object's
abbrev pub with_row : (ℕ → Option Row) → ℕ → Row → ℕ → Option Row
with_row rows o row = with_value rows o row

-- the rows without one object's
abbrev pub without_row : (ℕ → Option Row) → ℕ → ℕ → Option Row
without_row rows o = without_value rows o

-- the row of an object that was just created
abbrev pub fresh_row : ℕ → Row
fresh_row created = record { created = created; checkpoint = None; checkpoint_moment = 0; head = None; journal_bytes = 0; head_bytes = 0; sides = []; stamp = 0 }
