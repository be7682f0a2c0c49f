use Rattle.std.proofs.Common.{subst}
use Rattle.drive.specs.Fields.{DriveFields}
use Rattle.drive_compaction.specs.Passing.{PassesOver}
use Rattle.s4_compact.proofs.trying.try_pass.Goals as goal

pub returns : goal.returns
returns g c = record {
  tries = record {
    later = c.pass_over.new.drive;
    passed = subst (λ (x : DriveFields). PassesOver c.in_ok-pass.pass x c.pass_over.new.drive) c.blocks_left-before.ensures.same c.in_ok-pass.ensures.passed;
    left = c.left_with-left.ensures.left c.args.drive.now c.blocks_left-before.ensures.left;
  };
}
