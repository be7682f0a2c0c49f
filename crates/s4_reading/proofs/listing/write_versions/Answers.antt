use Rattle.std.proofs.Common.{subst}
use Rattle.drive.specs.Fields.{DriveFields, state_in, store_of}
use Rattle.history_versions.specs.Lines.{line_with_versions}
use Rattle.s4_reading.specs.Listing.{ListsRows}
use Rattle.s4_reading.proofs.listing.write_versions.Goals as goal

-- a drive is the same with a session
pub returns-in-Ok : goal.returns-in-Ok
returns-in-Ok g c =
    let passed = g.W.Sink.passed in
    record {
      rows = subst (λ (d : DriveFields). ListsRows (state_in d) (store_of d) c.args.asked.now.until c.args.deleted (line_with_versions (state_in d) (store_of d) c.args.asked.now) (passed c.args.writer.now) (passed c.write_each.new.writer)) c.session.ensures.same c.in-Ok.ensures.rows;
    }
