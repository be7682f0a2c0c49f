-- What a map ends as, once a `&mut` into it has ended.
use Rattle.std.specs.Prelude.{◌≡◌, ℕ, ◌+◌, Option, IfSome}
use Rattle.std.specs.Borrow.{Fml, RattleType, MutBor, LendsSo}
use Rattle.object_map.specs.declared.map.Row.{Row}
use Rattle.object_map.specs.contracts.map.ObjectMap.{the_row}
use Rattle.object_map.specs.Objects.{MapOf, Puts}
use Rattle.object_map.specs.Rows.{row_of}

-- An object's row is this one, changed once more, and the value beside it is the last one after r; all others are as they were.
-- Where r is none, nothing has changed.
abbrev pub LendsChanged : (V : RattleType) → MutBor (MapOf V.Denot) → ℕ → Row → Option (MutBor V.Denot) → Fml
LendsChanged V m o row r =
    LendsSo (the_row V) V m r (λ later value. IfSome (row_of m.now.rows o) (λ old. Puts m.now o (record row { stamp = old.stamp + 1 }) value later)) (λ later. later ≡ m.now)
