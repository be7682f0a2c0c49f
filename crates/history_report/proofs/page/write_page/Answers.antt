use Rattle.std.proofs.Common.{◌≡◌, ◌∙◌, ◌++◌, false, List, sym, subst}
use Rattle.std.proofs.lemmas.Result.{on_ok_weaker}
use Rattle.s4_types.specs.declared.spans.Span.{Span}
use Rattle.s4_model.specs.State.{State}
use Rattle.s4_model.specs.Visible.{spans_of}
use Rattle.version_store.specs.Store.{StoreFields}
use Rattle.moment_words.specs.Texts.{style_of}
use Rattle.window.specs.Runs.{Ascend}
use Rattle.window.specs.Timeline.{CoverAlike}
use Rattle.drive.specs.Fields.{state_in, store_of}
use Rattle.history_report.specs.Flushes.{flushes_part}
use Rattle.history_report.specs.Report.{timeline_of, table_of, since_of}
use Rattle.history_report.specs.private.Sections.{WritesFlushes, WritesSince, WritesTable}
use Rattle.history_report.proofs.Pages.{appends_two}
use Rattle.history_report.proofs.Rows.{state_stays}
use Rattle.history_report.proofs.page.write_page.Goals as goal

pub returns-clause-page : goal.returns-clause-page
returns-clause-page g c =
    let passed = g.W.Sink.passed in
    let d = c.args.drive.now in
    let s = state_in d in
    let store = store_of d in
    let from = c.args.from in
    let runs = c.as_slice.result.now in
    let w = passed c.args.writer.now in
    let x = passed c.write_timeline.new.writer in
    let y = passed c.write_table.new.writer in
    let v = passed c.write_flushes.new.writer in
    let z = passed c.write_since.new.writer in
    let timeline = c.in_ok-write_timeline.ensures.timeline in
    let table : WritesTable s store x y =
    subst (λ (t : StoreFields). WritesTable s t x y) c.write_timeline.ensures.store
    (subst (λ (t : State). WritesTable t (store_of c.write_timeline.new.drive) x y) (state_stays c.write_timeline.new.drive d c.write_timeline.ensures.ledger) c.in_ok-write_table.ensures.table) in
    let state : state_in c.write_table.new.drive ≡ s = state_stays c.write_table.new.drive d (c.write_table.ensures.ledger ∙ c.write_timeline.ensures.ledger) in
    let flushes : WritesFlushes s y v = subst (λ (t : State). WritesFlushes t y v) state c.in_ok-write_flushes.ensures.flushes in
    on_ok_weaker c.write_since.result
    (λ done. let since : WritesSince s from v z = subst (λ (t : State). WritesSince t from v z) state done in
    record {
      runs = runs;
      hidden = subst (λ (r : List Span). CoverAlike s.floor r (spans_of s)) (sym c.as_slice.ensures.value) c.in_ok-runs.ensures.alike;
      ordered = subst Ascend (sym c.as_slice.ensures.value) c.in_ok-runs.ensures.ordered;
      objects = timeline.objects;
      have_rows = timeline.have_rows;
      rows = table.rows;
      listed = table.listed;
      differences = since.differences;
      are = since.are;
      wrote = appends_two w x z (timeline_of s store runs from timeline.objects) (table_of (style_of s.clock false) table.rows ++ (flushes_part s ++ since_of since.differences)) timeline.wrote
          (appends_two x y z (table_of (style_of s.clock false) table.rows) (flushes_part s ++ since_of since.differences) table.wrote
          (appends_two y v z (flushes_part s) (since_of since.differences) flushes.wrote since.wrote));
    })
    c.write_since.ensures.since
