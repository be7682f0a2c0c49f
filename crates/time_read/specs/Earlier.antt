-- A pointer as it was.
use Rattle.std.specs.Prelude.{ℕ, Option}
use Rattle.s4_types.specs.Pointer.{Place}

-- a pointer's index, and what was there before an entry
pub record Earlier : Type 0 where
  pub index : ℕ
  pub before : Option Place
