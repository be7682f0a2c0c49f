-- What a step of gathering does to a drive that sessions share.
use Rattle.std.specs.Prelude.{◌≡◌, Option, Result, IfOk, IfErr, IfSome, IfNone, OnErr}
use Rattle.s4_types.specs.History.{Base}
use Rattle.s4_types.specs.declared.refusals.Refusal.{Refusal}
use Rattle.drive.specs.Fields.{DriveFields, state_in, store_of}
use Rattle.drive.specs.Keeping.{KeepsVersions}
use Rattle.segment_copier.specs.Gathering.{IsGathered, GathersNothing, FailsToGather}
use Rattle.segment_copier.specs.declared.candidates.Candidate.{Candidate}

-- A step of gathering was taken with the drive as sessions had left it, one of this base: its history is as it was, and every
-- version that can be read stays.
pub record SharedGather (base : Base) (found : Result (Option Candidate) Refusal) : Type 0 where
  pub before : DriveFields
  pub after : DriveFields
  pub begins : before.ledger.history.base ≡ base
  pub moved : IfOk found (λ next. IfSome next (λ c. IsGathered before c after))
  pub none : IfOk found (λ next. IfNone next (after ≡ before))
  pub idle : IfOk found (λ next. IfNone next (GathersNothing before))
  pub refusal : IfErr found (FailsToGather before)
  pub unchanged : OnErr found (store_of after ≡ store_of before)
  pub ledger : after.ledger ≡ before.ledger
  pub needed : KeepsVersions (state_in before) (store_of before) (store_of after)
