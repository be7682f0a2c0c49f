-- The window that keeps a moment in reach until changes are made.
use Rattle.std.specs.Prelude.{◌≡◌, ℕ, ◌+◌, ◌-◌, ◌≤◌, min, max, nat_lt, Bool, true, false, Option, None, Some}
use Rattle.s4_model.specs.State.{State}
use Rattle.s4_model.specs.VersionAt.{version_of}
use Rattle.s4_model.specs.Visible.{is_hidden}
use Rattle.s4_model.specs.Refusals.{present, last_number}
use Rattle.s4_model.specs.Step.{stamp}
use Rattle.history_restore.specs.Asking.{IsWithinChanges, clock_by}
use Rattle.history_restore.specs.Keeping.{LeavesPast}

-- the greatest moment that the clock may reach by this many changes at a moment of another clock
abbrev pub reached_by : State → ℕ → ℕ → ℕ
reached_by s now count = min last_number (clock_by s.clock now count)

-- the least window that reaches back to a moment from where this many changes may bring the clock
abbrev pub window_for : State → ℕ → ℕ → ℕ → ℕ
window_for s now at count = reached_by s now count - at

-- whether a moment may expire by this many changes
abbrev pub may_expire : State → ℕ → ℕ → ℕ → Bool
may_expire s now at count = nat_lt s.window (window_for s now at count)

-- The window was set to this width, by one change, and nothing else: no object changed, and what was hidden is so. The floor rose to where the window
-- reaches back from the clock, unless it was above that.
pub record IsWidened (s : State) (now width : ℕ) (later : State) : Type 0 where
  pub objects : (q : ℕ) → present later q ≡ present s q
  pub versions : (q t : ℕ) → t ≤ s.clock → version_of later q t ≡ version_of s q t
  pub hidden : (q t : ℕ) → is_hidden later q t ≡ is_hidden s q t
  pub clock : later.clock ≡ stamp s now
  pub window : later.window ≡ width
  pub floor : later.floor ≡ max s.floor (later.clock - width)
  pub next : later.next ≡ s.next

-- The window was widened so far that a moment stays in reach until this many changes and this one are made, by no more than that takes, and
-- only where the moment might have expired; else all is as it was.
abbrev pub Widens : State → ℕ → ℕ → ℕ → Option ℕ → State → Type 0
Widens s now at count None later = (may_expire s now at count ≡ false) × (later ≡ s)
Widens s now at count (Some window) later = (may_expire s now at count ≡ true) × (window ≡ window_for s now at (count + 1)) × IsWidened s now window later

-- So the moment is in reach when the changes are made: the floor isn't above it, unless it was.
abbrev pub AWidenedWindowKeepsItsMoment : Type 0
AWidenedWindowKeepsItsMoment = (s middle later : State) (now at count : ℕ) (widened : Option ℕ) → Widens s now at count widened middle → LeavesPast middle later → IsWithinChanges middle now count later
    → s.floor ≤ at → later.clock ≤ last_number → later.floor ≤ at
