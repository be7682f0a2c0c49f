-- What restoring leaves as it was.
use Rattle.std.specs.Prelude.{◌≡◌, ◌≢◌, ℕ, ◌-◌, ◌<◌, ◌≤◌, max}
use Rattle.s4_model.specs.State.{State}
use Rattle.s4_model.specs.VersionAt.{version_of}
use Rattle.s4_model.specs.Visible.{is_hidden}
use Rattle.s4_model.specs.Refusals.{present}

-- Every version up to the clock is what it was, and no moment is hidden or shown that wasn't. The clock doesn't fall, the window stays, and
-- the floor doesn't fall and rises at most to where the window reaches back from the clock. No number is given twice.
pub record LeavesPast (s later : State) : Type 0 where
  pub versions : (o t : ℕ) → t ≤ s.clock → version_of later o t ≡ version_of s o t
  pub hidden : (o t : ℕ) → is_hidden later o t ≡ is_hidden s o t
  pub clock : s.clock ≤ later.clock
  pub window : later.window ≡ s.window
  pub floor : s.floor ≤ later.floor
  pub reach : later.floor ≤ max s.floor (later.clock - s.window)
  pub next : s.next ≤ later.next

-- every object but one is what it was
abbrev pub LeavesOthers : ℕ → State → State → Type 0
LeavesOthers o s later = (q : ℕ) → q ≢ o → present later q ≡ present s q

-- what was changed has a moment from this one on: every version before it is what it was
abbrev pub IsDatedFrom : ℕ → State → State → Type 0
IsDatedFrom now s later = (o t : ℕ) → t < now → version_of later o t ≡ version_of s o t
