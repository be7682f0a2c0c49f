use Rattle.std.proofs.Common.{◌+◌, ◌^◌, ◌<◌, ◌∙◌, ℕ, refl, sym, subst}
use Rattle.drive.specs.Fields.{state_in, store_of}
use Rattle.history_view.proofs.Named.{next_as_before, passed_as_before}
use Rattle.s4_reading.specs.Listing.{line_of_listed}
use Rattle.s4_reading.proofs.Rows.{ListedTo, none_listed, listed_on, all_listed}
use Rattle.s4_reading.proofs.listing.write_listed.Goals as goal

pub loop-row-init : goal.loop-row-init
loop-row-init g c =
    let passed = g.W.Sink.passed in
    let s = state_in c.args.drive.now in
    let store = store_of c.args.drive.now in
    record {
      failures = c.requires.writer;
      ledger = refl;
      store = refl;
      listed = subst (λ (o : ℕ). ListedTo s store c.args.moment c.args.deleted (line_of_listed c.args.form.json c.args.form.style) o (passed c.args.writer.now) (passed c.args.writer.now)) (sym c.new-last.ensures)
          (none_listed s store c.args.moment c.args.deleted (line_of_listed c.args.form.json c.args.form.style) (passed c.args.writer.now));
    }

pub loop-row-preserved : goal.loop-row-preserved
loop-row-preserved g c =
    let passed = g.W.Sink.passed in
    let s = state_in c.args.drive.now in
    let store = store_of c.args.drive.now in
    let before = c.loop-row.invariant in
    record {
      failures = subst (λ n. n + 1 < 2 ^ 64) (sym c.in_ok-write_line.ensures.failures) before.failures;
      ledger = c.next_listed.ensures.ledger ∙ before.ledger;
      store = c.next_listed.ensures.store ∙ before.store;
      listed = listed_on s store c.args.moment c.args.deleted (line_of_listed c.args.form.json c.args.form.style) c.loop-row.last c.in-Some.row (passed c.args.writer.now) (passed c.loop-row.writer) (passed c.write_line.new.writer) before.listed
          (next_as_before c.loop-row.drive c.args.drive.now c.args.deleted c.args.moment c.loop-row.last c.in-Some.row before.ledger before.store c.in-Some.ensures.some)
          c.in_ok-write_line.ensures.line;
    }

pub returns : goal.returns
returns g c =
    let passed = g.W.Sink.passed in
    let before = c.loop-row.invariant in
    record {
      rows = all_listed (state_in c.args.drive.now) (store_of c.args.drive.now) c.args.moment c.args.deleted (line_of_listed c.args.form.json c.args.form.style) c.loop-row.last (passed c.args.writer.now) (passed c.loop-row.writer) before.listed
          (λ o above. passed_as_before c.loop-row.drive c.args.drive.now c.args.deleted c.args.moment o before.ledger before.store (c.in_default.ensures.none o above));
    }
