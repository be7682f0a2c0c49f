-- What a check has read, said of the drive before its session.
use Rattle.std.proofs.Common.{◌≡◌, ℕ, List, Option, None, subst}
use Rattle.drive.specs.Fields.{DriveFields, state_in, store_of}
use Rattle.history_export.specs.Checks.{ChecksAll}
use Rattle.history_export.specs.declared.checking.CheckReport.{CheckReport}

-- an equal drive has the same versions, whoever was told of its objects
pub same_checks : (d e : DriveFields) (report : CheckReport) (told told' : Option (List ℕ)) → e ≡ d → ChecksAll (state_in e) (store_of e) report told told' → ChecksAll (state_in d) (store_of d) report None None
same_checks d e report told told' equal all =
    let same = subst (λ (x : DriveFields). ChecksAll (state_in x) (store_of x) report told told') equal all in
    record { objects = same.objects; have_rows = same.have_rows; read = same.read; digest = same.digest; objects_told = tt }
