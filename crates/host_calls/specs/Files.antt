-- What calls did to the file of a number since it was made.
use Rattle.std.specs.Prelude.{ℕ, ◌==◌, Bool, true, false, if◌then◌else◌, List, [], ◌∷◌}
use Rattle.host_calls.specs.Events.{Event, Made, Locked}

-- whether the file of a number is locked after a call, by whether it was before
abbrev pub locked_by : ℕ → Event → Bool → Bool
locked_by number (Made path mode other true) before = if other == number then false else before
locked_by number (Locked other true) before = if other == number then true else before
locked_by number call before = before

-- whether the file of a number is locked after these calls, of which the newest comes first
unfoldable pub is_locked : ℕ → List Event → Bool
is_locked number [] = false
is_locked number (call ∷ earlier) = locked_by number call (is_locked number earlier)

-- the mode that the file of a number was made with, after a call
abbrev pub mode_by : ℕ → Event → ℕ → ℕ
mode_by number (Made path mode other true) before = if other == number then mode else before
mode_by number call before = before

-- the mode that the file of a number was made with, by these calls: the last one of that number
unfoldable pub made_mode : ℕ → List Event → ℕ
made_mode number [] = 0
made_mode number (call ∷ earlier) = mode_by number call (made_mode number earlier)
