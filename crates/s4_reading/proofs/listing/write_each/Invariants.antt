use Rattle.std.proofs.Common.{◌≡◌, ◌-◌, ◌+◌, ◌<◌, ◌^◌}
use Rattle.drive.specs.Fields.{state_in, store_of}
use Rattle.history_versions.specs.Lines.{line_with_versions}
use Rattle.s4_reading.proofs.Rows.{ListedTo}
use Rattle.s4_reading.proofs.listing.write_each.Given as goal

-- the objects so far are listed with their versions, the drive's state and store are as they were, and the writer hasn't failed since
abbrev pub invariant-loop-row : goal.invariant-loop-row
invariant-loop-row g l = record {
  failures : g.W.Sink.failures l.writer + 1 < 2 ^ 64;
  state : state_in l.drive ≡ state_in l.initial.drive;
  store : store_of l.drive ≡ store_of l.initial.drive;
  listed : ListedTo (state_in l.initial.drive) (store_of l.initial.drive) l.asked.until l.deleted (line_with_versions (state_in l.initial.drive) (store_of l.initial.drive) l.asked) l.before (g.W.Sink.passed l.initial.writer) (g.W.Sink.passed l.writer);
}

abbrev pub decreases-loop-row : goal.decreases-loop-row
decreases-loop-row g l = 2 ^ 64 - l.before
