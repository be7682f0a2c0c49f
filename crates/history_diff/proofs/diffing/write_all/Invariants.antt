use Rattle.std.proofs.Common.{◌≡◌, ◌+◌, ◌-◌, ◌^◌, ◌<◌}
use Rattle.drive.specs.Fields.{state_in, store_of}
use Rattle.history_diff.proofs.Rows.{WrittenTo}
use Rattle.history_diff.proofs.diffing.write_all.Given as goal

-- the objects so far have their lines, the drive is as it was, and the writer hasn't failed since
abbrev pub invariant-loop-found : goal.invariant-loop-found
invariant-loop-found g l = record {
  failures : g.W.Sink.failures l.writer + 1 < 2 ^ 64;
  state : state_in l.drive ≡ state_in l.initial.drive;
  store : store_of l.drive ≡ store_of l.initial.drive;
  written : WrittenTo (state_in l.initial.drive) l.comparison l.last l.differs (g.W.Sink.passed l.initial.writer) (g.W.Sink.passed l.writer);
}

abbrev pub decreases-loop-found : goal.decreases-loop-found
decreases-loop-found g l = 2 ^ 64 - l.last
