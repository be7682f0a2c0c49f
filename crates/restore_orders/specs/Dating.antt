-- At which moment the changes of a restore are asked for.
use Rattle.std.specs.Prelude.{◌≡◌, ◌⊎◌, ℕ, nat_lt, if◌then◌else◌, Bool, false}
use Rattle.moment_words.specs.declared.printing.TheConstants.{FIRST_DATED}
use Rattle.s4_model.specs.State.{State}
use Rattle.service_time.specs.Starts.{IsTooFar, Suffices}
use Rattle.history_restore.specs.Presence.{HasNone, HasObject}
use Rattle.s4_images.specs.declared.faults.Failure.{Failure}
use Rattle.s4_images.specs.declared.faults.Failure.TheVariants.{AgesTooMuch, LeavesNothing}

-- The moment at which changes are asked for, where the machine's time is there: that time where moments are times. Where they are numbers it is 0,
-- so that each change has the first moment after the clock.
abbrev pub asked_at : State → ℕ → ℕ
asked_at s time = if nat_lt s.clock FIRST_DATED then 0 else time

-- A failure tells that the machine's time is too far above a drive's clock: more of its past would age than a window and a leap allow. The leap that
-- it names will do for a day.
pub record TellsLeap (s : State) (time leap : ℕ) (failure : Failure) : Type 0 where
  pub far : IsTooFar s.clock s.window time leap
  pub days : ℕ
  pub is : failure ≡ AgesTooMuch days
  pub enough : Suffices s.clock time days

-- An object is left, or there was none.
abbrev pub LeavesObject : State → State → Type 0
LeavesObject s later = HasObject later ⊎ HasNone s
