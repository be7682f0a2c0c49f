-- Which calls of the system are made.
use Rattle.std.specs.Prelude.{◌≡◌, ◌==◌, ◌++◌, ℕ, Bool, false, List, IsTrue}
use Rattle.std.specs.List.{list_all}
use Rattle.host_calls.specs.Events.{Event, Written, Cut, Synced}

-- whether a call writes, cuts or syncs the file of a number
abbrev pub is_of : ℕ → Event → Bool
is_of number (Written of at bytes ok) = of == number
is_of number (Cut of len ok) = of == number
is_of number (Synced of ok) = of == number
is_of number call = false

-- Such calls came to these, and no other call did.
pub record CallsOnly (number : ℕ) (old new : List Event) : Type 0 where
  pub more : List Event
  pub came : new ≡ more ++ old
  pub each : IsTrue (list_all (is_of number) more)
