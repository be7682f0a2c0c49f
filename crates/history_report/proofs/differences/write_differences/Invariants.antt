use Rattle.std.proofs.Common.{◌≡◌, ◌-◌, ◌^◌}
use Rattle.drive.specs.Fields.{state_in, store_of}
use Rattle.history_report.proofs.Differing.{DiffersTo}
use Rattle.history_report.proofs.differences.write_differences.Given as goal

-- the objects so far have what differs of them, the drive is as it was, and the writer hasn't failed since
abbrev pub invariant-loop-session : goal.invariant-loop-session
invariant-loop-session g l = record {
  failures : g.W.Sink.failures l.writer ≡ g.W.Sink.failures l.initial.writer;
  state : state_in l.drive ≡ state_in l.fn.drive;
  store : store_of l.drive ≡ store_of l.fn.drive;
  differences : DiffersTo (state_in l.fn.drive) l.from l.until l.last l.differs (g.W.Sink.passed l.initial.writer) (g.W.Sink.passed l.writer);
}

abbrev pub decreases-loop-session : goal.decreases-loop-session
decreases-loop-session g l = 2 ^ 64 - l.last
