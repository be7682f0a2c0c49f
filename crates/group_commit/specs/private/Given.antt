-- What a session was given that asked.
use Rattle.std.specs.Prelude.{ℕ, ⊤}
use Rattle.group_commit.specs.Commit.{Covers}
use Rattle.group_commit.specs.declared.monitor.Given.{Given as GivenValue}
use Rattle.group_commit.specs.declared.monitor.Given.TheVariants.{Receipt, NotKept, ToFlush}

-- a receipt that it was given covers it
abbrev pub IsGiven : {T : Type 0} → (number_of reach_of : T → ℕ) → GivenValue T → (number clock : ℕ) → Type 0
IsGiven number_of reach_of (Receipt receipt) number clock = Covers number_of reach_of receipt number clock
IsGiven number_of reach_of NotKept number clock = ⊤
IsGiven number_of reach_of ToFlush number clock = ⊤
