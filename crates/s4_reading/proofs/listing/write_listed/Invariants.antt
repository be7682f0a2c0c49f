use Rattle.std.proofs.Common.{◌≡◌, ◌-◌, ◌+◌, ◌<◌, ◌^◌}
use Rattle.drive.specs.Fields.{state_in, store_of}
use Rattle.s4_reading.specs.Listing.{line_of_listed}
use Rattle.s4_reading.proofs.Rows.{ListedTo}
use Rattle.s4_reading.proofs.listing.write_listed.Given as goal

-- the objects so far are listed, the drive is as it was, and the writer hasn't failed since
abbrev pub invariant-loop-row : goal.invariant-loop-row
invariant-loop-row g l = record {
  failures : g.W.Sink.failures l.writer + 1 < 2 ^ 64;
  ledger : l.drive.ledger ≡ l.initial.drive.ledger;
  store : store_of l.drive ≡ store_of l.initial.drive;
  listed : ListedTo (state_in l.initial.drive) (store_of l.initial.drive) l.moment l.deleted (line_of_listed l.form.json l.form.style) l.last (g.W.Sink.passed l.initial.writer) (g.W.Sink.passed l.writer);
}

abbrev pub decreases-loop-row : goal.decreases-loop-row
decreases-loop-row g l = 2 ^ 64 - l.last
