-- What a wait at a monitor has given.
use Rattle.std.specs.Prelude.{◌≡◌, ℕ, Bool, true, false, Option}
use Rattle.batch_serving.specs.Showing.{Shows}

-- Where it ended well there is a receipt, which covers the backend's last step. Else the one that was there stays.
abbrev pub HasWaited : {B T : Type 0} → (is_at : B → ℕ → ℕ → Type 0) → (number_of reach_of : T → ℕ) → (is_kept : Bool) → B → (old new : Option T) → Type 0
HasWaited is_at number_of reach_of true backend old new = Shows is_at number_of reach_of backend new
HasWaited is_at number_of reach_of false backend old new = new ≡ old
