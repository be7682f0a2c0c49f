use Rattle.std.proofs.Common.{◌≤◌, ◌-◌, length}
use Rattle.log_files.specs.Called.{CallsOnly}
use Rattle.log_files.specs.Contents.{contents}
use Rattle.log_files.specs.Taking.{HasWritten}
use Rattle.log_files.proofs.taking.write_all.Given as goal

-- so many bytes are written
abbrev pub invariant-loop-done : goal.invariant-loop-done
invariant-loop-done g l = record {
  within : l.done ≤ length l.bytes;
  writing : HasWritten l.at l.done l.bytes
      (contents (g.C.Calls.number l.taker) l.fn.unwritten.writes (g.C.Calls.history l.fn.calls))
      (contents (g.C.Calls.number l.taker) l.unwritten.writes (g.C.Calls.history l.calls));
  called : CallsOnly (g.C.Calls.number l.taker) (g.C.Calls.history l.fn.calls) (g.C.Calls.history l.calls);
}

abbrev pub decreases-loop-done : goal.decreases-loop-done
decreases-loop-done g l = length l.bytes - l.done
