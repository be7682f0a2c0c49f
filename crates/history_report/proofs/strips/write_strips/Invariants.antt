use Rattle.std.proofs.Common.{◌≡◌, ◌-◌, ◌^◌}
use Rattle.drive.specs.Fields.{state_in, store_of}
use Rattle.history_view.specs.Logs.{AreRowsFrom}
use Rattle.history_report.specs.Timeline.{strip_of}
use Rattle.history_report.proofs.Written.{WrittenTo}
use Rattle.history_report.proofs.strips.write_strips.Given as goal

-- the objects so far have their strips, the drive is as it was, and the writer hasn't failed since
abbrev pub invariant-loop-object : goal.invariant-loop-object
invariant-loop-object g l = record {
  failures : g.W.Sink.failures l.writer ≡ g.W.Sink.failures l.initial.writer;
  ledger : l.drive.ledger ≡ l.initial.drive.ledger;
  store : store_of l.drive ≡ store_of l.initial.drive;
  strips : WrittenTo (AreRowsFrom (store_of l.initial.drive)) (strip_of l.scale (state_in l.initial.drive) (store_of l.initial.drive) l.runs) l.last (g.W.Sink.passed l.initial.writer) (g.W.Sink.passed l.writer);
}

abbrev pub decreases-loop-object : goal.decreases-loop-object
decreases-loop-object g l = 2 ^ 64 - l.last
