-- What a cleaning is answered, and what it leaves of the drive.
use Rattle.std.specs.Prelude.{◌≡◌, ◌⊎◌, ℕ, Result, IfErr, OnErr}
use Rattle.s4_types.specs.declared.refusals.Refusal.{Refusal}
use Rattle.s4_types.specs.declared.refusals.Refusal.TheVariants.{NoMemory, NoRoom}
use Rattle.drive.specs.Fields.{DriveFields, state_in, store_of}
use Rattle.drive.specs.Keeping.{KeepsVersions}

-- An object is cleaned, or that is refused for lack of room or of memory, and nothing has changed then. The history and every
-- needed version are as they were. What else a cleaning comes to is the cleaner's own.
pub record Tidies (cleans : ℕ → DriveFields → Result (Unit {0}) Refusal → DriveFields → Type 0) (object : ℕ) (d : DriveFields) (done : Result (Unit {0}) Refusal) (later : DriveFields) : Type 0 where
  pub own : cleans object d done later
  pub told : IfErr done (λ e. (e ≡ NoMemory) ⊎ (e ≡ NoRoom))
  pub unchanged : OnErr done (store_of later ≡ store_of d)
  pub ledger : later.ledger ≡ d.ledger
  pub needed : KeepsVersions (state_in d) (store_of d) (store_of later)
