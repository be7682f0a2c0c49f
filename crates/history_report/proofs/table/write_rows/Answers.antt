use Rattle.std.proofs.Common.{◌≡◌, ◌+◌, ◌^◌, ◌<◌, ◌∙◌, ℕ, true, refl, sym, subst}
use Rattle.std.specs.Io.KnownBytes.{Appends}
use Rattle.drive.specs.Fields.{state_in, store_of}
use Rattle.history_view.specs.Listing.{AreListedFrom}
use Rattle.history_view.proofs.Fronts.{front_whole}
use Rattle.history_report.specs.Page.{page_text}
use Rattle.history_report.specs.Table.{row_of}
use Rattle.history_report.proofs.Rows.{next_as_before, passed_as_before}
use Rattle.history_report.proofs.Written.{WrittenTo, none_written, written_on}
use Rattle.history_report.proofs.table.write_rows.Goals as goal

pub loop-row-init : goal.loop-row-init
loop-row-init g c =
    let out = g.W.Sink.passed c.args.writer.now in
    let from = AreListedFrom (state_in c.args.drive.now) (store_of c.args.drive.now) true c.args.at in
    record {
      failures = refl;
      ledger = refl;
      store = refl;
      listed = subst (λ (o : ℕ). WrittenTo from (row_of c.args.style) o out out) (sym c.new-last.ensures) (none_written from (row_of c.args.style) out);
    }

pub write_out-requires : goal.write_out-requires
write_out-requires g c = record { writer = subst (λ n. n + 1 < 2 ^ 64) (sym c.loop-row.invariant.failures) c.requires.writer }

pub loop-row-preserved : goal.loop-row-preserved
loop-row-preserved g c =
    let passed = g.W.Sink.passed in
    let before = c.loop-row.invariant in
    let row = c.in-Some.row in
    let a = passed c.loop-row.writer in
    let b = passed c.write_out.new.writer in
    let text : c.as_bytes.result.now ≡ page_text (row_of c.args.style row) = c.as_bytes.ensures.value ∙ c.in_ok-text.ensures in
    let next = next_as_before c.loop-row.drive c.args.drive.now c.args.at c.loop-row.last row before.ledger before.store c.in-Some.ensures.some in
    record {
      failures = c.in_ok-write_out.ensures.failures ∙ before.failures;
      ledger = c.next_listed.ensures.ledger ∙ before.ledger;
      store = c.next_listed.ensures.store ∙ before.store;
      listed = written_on (AreListedFrom (state_in c.args.drive.now) (store_of c.args.drive.now) true c.args.at) (row_of c.args.style) c.loop-row.last row.object row (passed c.args.writer.now) a b before.listed (λ rest more. (next, more))
          (subst (Appends a b) text c.in_ok-write_out.ensures.bytes);
    }

pub returns-clause-rows : goal.returns-clause-rows
returns-clause-rows g c =
    let before = c.loop-row.invariant in
    record {
      rows = before.listed.elements;
      listed = front_whole (AreListedFrom (state_in c.args.drive.now) (store_of c.args.drive.now) true c.args.at) before.listed.elements c.loop-row.last before.listed.front
          (λ o above. passed_as_before c.loop-row.drive c.args.drive.now c.args.at o before.ledger before.store (c.in_default.ensures.none o above));
      wrote = before.listed.wrote;
    }
