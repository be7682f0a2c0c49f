use Rattle.std.proofs.Common.{◌≡◌, ◌+◌, ◌^◌, ◌<◌, ◌∙◌, ℕ, refl, ap, sym, subst}
use Rattle.s4_model.specs.State.{state_of}
use Rattle.segment_word.specs.AcceptViews.{Ledger}
use Rattle.drive.specs.Fields.{state_in, store_of}
use Rattle.history_versions.specs.Lines.{line_with_versions}
use Rattle.s4_reading.proofs.Rows.{ListedTo, none_listed, listed_on, all_listed, next_as_alike, passed_as_alike, line_as_alike}
use Rattle.s4_reading.proofs.listing.write_each.Goals as goal

pub loop-row-init : goal.loop-row-init
loop-row-init g c =
    let passed = g.W.Sink.passed in
    let s = state_in c.args.drive.now in
    let store = store_of c.args.drive.now in
    let line = line_with_versions s store c.args.asked.now in
    record {
      failures = c.requires.writer;
      state = refl;
      store = refl;
      listed = subst (λ (o : ℕ). ListedTo s store c.args.asked.now.until c.args.deleted line o (passed c.args.writer.now) (passed c.args.writer.now)) (sym c.new-before.ensures)
          (none_listed s store c.args.asked.now.until c.args.deleted line (passed c.args.writer.now));
    }

pub loop-row-preserved : goal.loop-row-preserved
loop-row-preserved g c =
    let passed = g.W.Sink.passed in
    let s = state_in c.args.drive.now in
    let store = store_of c.args.drive.now in
    let line = line_with_versions s store c.args.asked.now in
    let before = c.loop-row.invariant in
    let row = c.in-Some.row in
    let state_is : state_in c.next_listed.new.drive ≡ s = ap (λ (l : Ledger). state_of l.history) c.next_listed.ensures.ledger ∙ before.state in
    let store_is : store_of c.next_listed.new.drive ≡ store = c.next_listed.ensures.store ∙ before.store in
    record {
      failures = subst (λ n. n + 1 < 2 ^ 64) (sym c.in_ok-write_with_versions.ensures.failures) before.failures;
      state = c.write_with_versions.ensures.state ∙ state_is;
      store = c.write_with_versions.ensures.store ∙ store_is;
      listed = listed_on s store c.args.asked.now.until c.args.deleted line c.loop-row.before row (passed c.args.writer.now) (passed c.loop-row.writer) (passed c.write_with_versions.new.writer) before.listed
          (next_as_alike (state_in c.loop-row.drive) s (store_of c.loop-row.drive) store c.args.deleted c.args.asked.now.until c.loop-row.before row before.state before.store c.in-Some.ensures.some)
          (line_as_alike (state_in c.next_listed.new.drive) s (store_of c.next_listed.new.drive) store c.args.asked.now row (passed c.loop-row.writer) (passed c.write_with_versions.new.writer) state_is store_is c.in_ok-write_with_versions.ensures.line);
    }

pub returns : goal.returns
returns g c =
    let passed = g.W.Sink.passed in
    let s = state_in c.args.drive.now in
    let store = store_of c.args.drive.now in
    let before = c.loop-row.invariant in
    record {
      rows = all_listed s store c.args.asked.now.until c.args.deleted (line_with_versions s store c.args.asked.now) c.loop-row.before (passed c.args.writer.now) (passed c.loop-row.writer) before.listed
          (λ o above. passed_as_alike (state_in c.loop-row.drive) s (store_of c.loop-row.drive) store c.args.deleted c.args.asked.now.until o before.state before.store (c.in_default.ensures.none o above));
    }
