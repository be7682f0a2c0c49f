-- What sessions wait for until their changes are kept.
use Rattle.std.specs.Prelude.{ℕ, ◌≤◌, ◌-◌, ◌&&◌, Bool, true, false, zero, suc, None, Some, nat_le, if◌then◌else◌}
use Rattle.group_commit.specs.declared.progress.Shortage.{Shortage}
use Rattle.group_commit.specs.declared.progress.Shortage.TheVariants.{Begins, GoesOn, IsOver}
use Rattle.group_commit.specs.declared.progress.Turn.{Turn}
use Rattle.group_commit.specs.declared.progress.Turn.TheVariants.{Covered, Failed, Flushes, Waits}

-- a receipt covers a number of changes and a moment
pub record Covers {T : Type 0} (number_of reach_of : T → ℕ) (receipt : T) (number clock : ℕ) : Type 0 where
  pub changes : number ≤ number_of receipt
  pub moment : clock ≤ reach_of receipt

-- the same as a test
abbrev pub covers : {T : Type 0} → (number_of reach_of : T → ℕ) → T → (number clock : ℕ) → Bool
covers number_of reach_of receipt number clock = nat_le number (number_of receipt) && nat_le clock (reach_of receipt)

-- what a session is to do, by whether the service has ended, what is kept covers it, a flush has failed, and somebody flushes
abbrev pub turn_of : (has_ended is_covered has_failed is_flushing : Bool) → Turn
turn_of true is_covered has_failed is_flushing = Failed
turn_of false true has_failed is_flushing = Covered
turn_of false false true is_flushing = Failed
turn_of false false false true = Waits
turn_of false false false false = Flushes

-- what is to be done where a flush lacked memory or space, by whether the service is to stop, the flush before lacked it too, and how
-- often it may be tried again then
abbrev pub shortage_of : (is_stopping was_short : Bool) (left : ℕ) → Shortage
shortage_of true was_short zero = IsOver
shortage_of true true (suc left) = GoesOn
shortage_of true false (suc left) = Begins (Some (suc left))
shortage_of false true left = GoesOn
shortage_of false false left = Begins None

-- how often it may be after that: only a service that is to stop counts
abbrev pub left_after : (is_stopping : Bool) (left : ℕ) → ℕ
left_after is_stopping left = if is_stopping then left - 1 else left

-- the receipt after another one came: that one where it covers as much, else the one that was there
abbrev pub later_of : {T : Type 0} → (number_of reach_of : T → ℕ) → T → T → T
later_of number_of reach_of kept receipt = if covers number_of reach_of receipt (number_of kept) (reach_of kept) then receipt else kept
