use Rattle.std.proofs.Common.{◌≡◌, take}
use Rattle.s4_types.specs.declared.versions.Version.TheVariants.{Absent}
use Rattle.s4_model.specs.VersionAt.{version_after}
use Rattle.s4_model.proofs.replay.version_at.Given as goal

abbrev pub invariant-loop-accepted : goal.invariant-loop-accepted
invariant-loop-accepted l = l.version ≡ version_after Absent (take l.accepted-index l.changes) l.object l.at
