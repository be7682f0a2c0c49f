use Rattle.std.proofs.Common.{◌≡◌, ◌+◌, ◌<◌, ◌^◌}
use Rattle.drive.specs.Fields.{state_in, store_of}
use Rattle.history_versions.specs.Lines.{piece_at}
use Rattle.history_versions.proofs.Written.{JoinedTo}
use Rattle.history_versions.proofs.lines.write_pieces.Given as goal

-- the pieces for the moments so far are written, the writer hasn't failed since, and the drive's state and store are as they were
abbrev pub invariant-loop-moment : goal.invariant-loop-moment
invariant-loop-moment g l = record {
  state : state_in l.drive ≡ state_in l.fn.drive;
  store : store_of l.drive ≡ store_of l.fn.drive;
  failures : g.W.Sink.failures l.writer ≡ g.W.Sink.failures l.fn.writer;
  pieces : JoinedTo (piece_at (state_in l.fn.drive) l.asked l.object) l.moments l.moment-index l.before (g.W.Sink.passed l.fn.writer) (g.W.Sink.passed l.writer);
}
