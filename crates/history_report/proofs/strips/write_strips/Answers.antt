use Rattle.std.proofs.Common.{◌≡◌, ◌+◌, ◌^◌, ◌<◌, ◌∙◌, ℕ, None, refl, sym, subst}
use Rattle.std.specs.Io.KnownBytes.{Appends}
use Rattle.object_map.specs.Objects.{IsNextAbove}
use Rattle.object_map.specs.Rows.{row_of}
use Rattle.s4_model.specs.State.{State}
use Rattle.version_store.specs.Store.{StoreFields}
use Rattle.drive.specs.Fields.{state_in, store_of}
use Rattle.history_view.specs.Logs.{AreRowsFrom}
use Rattle.history_view.proofs.Fronts.{front_whole}
use Rattle.history_report.specs.Page.{page_text}
use Rattle.history_report.specs.Timeline.{strip_of}
use Rattle.history_report.proofs.Rows.{state_stays}
use Rattle.history_report.proofs.Written.{WrittenTo, none_written, written_on}
use Rattle.history_report.proofs.strips.write_strips.Goals as goal

pub loop-object-init : goal.loop-object-init
loop-object-init g c =
    let out = g.W.Sink.passed c.args.writer.now in
    let store = store_of c.args.drive.now in
    let strip = strip_of c.args.scale.now (state_in c.args.drive.now) store c.args.runs.now in
    record {
      failures = refl;
      ledger = refl;
      store = refl;
      strips = subst (λ (o : ℕ). WrittenTo (AreRowsFrom store) strip o out out) (sym c.new-last.ensures) (none_written (AreRowsFrom store) strip out);
    }

pub write_out-requires : goal.write_out-requires
write_out-requires g c = record { writer = subst (λ n. n + 1 < 2 ^ 64) (sym c.loop-object.invariant.failures) c.requires.writer }

pub loop-object-preserved : goal.loop-object-preserved
loop-object-preserved g c =
    let passed = g.W.Sink.passed in
    let s = state_in c.args.drive.now in
    let store = store_of c.args.drive.now in
    let scale = c.args.scale.now in
    let runs = c.args.runs.now in
    let before = c.loop-object.invariant in
    let o = c.in-Some.object in
    let a = passed c.loop-object.writer in
    let b = passed c.write_out.new.writer in
    let next : IsNextAbove store.rows c.loop-object.last o = subst (λ (x : StoreFields). IsNextAbove x.rows c.loop-object.last o) before.store c.in-Some.ensures.some in
    let text : c.as_bytes.result.now ≡ page_text (strip_of scale (state_in c.loop-object.drive) (store_of c.loop-object.drive) runs o) = c.as_bytes.ensures.value ∙ c.in_ok-text.ensures.strip in
    let wrote : Appends a b (page_text (strip_of scale s store runs o)) =
    subst (λ (x : StoreFields). Appends a b (page_text (strip_of scale s x runs o))) before.store
    (subst (λ (x : State). Appends a b (page_text (strip_of scale x (store_of c.loop-object.drive) runs o))) (state_stays c.loop-object.drive c.args.drive.now before.ledger)
    (subst (Appends a b) text c.in_ok-write_out.ensures.bytes)) in
    record {
      failures = c.in_ok-write_out.ensures.failures ∙ before.failures;
      ledger = c.strip_text.ensures.ledger ∙ before.ledger;
      store = c.strip_text.ensures.store ∙ before.store;
      strips = written_on (AreRowsFrom store) (strip_of scale s store runs) c.loop-object.last o o (passed c.args.writer.now) a b before.strips (λ rest more. (next, more)) wrote;
    }

pub returns-clause-strips : goal.returns-clause-strips
returns-clause-strips g c =
    let before = c.loop-object.invariant in
    record {
      objects = before.strips.elements;
      have_rows = front_whole (AreRowsFrom (store_of c.args.drive.now)) before.strips.elements c.loop-object.last before.strips.front
          (λ o above. subst (λ (x : StoreFields). row_of x.rows o ≡ None) before.store (c.in_default.ensures.none o above));
      wrote = before.strips.wrote;
    }
