use Rattle.std.proofs.Common.{◌≡◌, ◌-◌, ◌^◌, true}
use Rattle.drive.specs.Fields.{state_in, store_of}
use Rattle.history_view.specs.Listing.{AreListedFrom}
use Rattle.history_report.specs.Table.{row_of}
use Rattle.history_report.proofs.Written.{WrittenTo}
use Rattle.history_report.proofs.table.write_rows.Given as goal

-- the objects so far have their rows, the drive is as it was, and the writer hasn't failed since
abbrev pub invariant-loop-row : goal.invariant-loop-row
invariant-loop-row g l = record {
  failures : g.W.Sink.failures l.writer ≡ g.W.Sink.failures l.initial.writer;
  ledger : l.drive.ledger ≡ l.initial.drive.ledger;
  store : store_of l.drive ≡ store_of l.initial.drive;
  listed : WrittenTo (AreListedFrom (state_in l.initial.drive) (store_of l.initial.drive) true l.at) (row_of l.style) l.last (g.W.Sink.passed l.initial.writer) (g.W.Sink.passed l.writer);
}

abbrev pub decreases-loop-row : goal.decreases-loop-row
decreases-loop-row g l = 2 ^ 64 - l.last
