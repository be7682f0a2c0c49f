use Rattle.std.proofs.Common.{◌≡◌, ◌∙◌, ℕ, refl, sym, ap, subst}
use Rattle.std.specs.Option.{option_map}
use Rattle.s4_model.specs.State.{State, state_of}
use Rattle.s4_model.specs.Visible.{IsVisible}
use Rattle.segment_word.specs.AcceptViews.{Ledger}
use Rattle.drive.specs.Fields.{state_in, store_of}
use Rattle.history_export.specs.Exports.{content_at, with_object}
use Rattle.history_export.proofs.Files.{ExportedTo, none_exported, exported_on, all_exported, next_as_before, passed_as_before}
use Rattle.history_export.proofs.exporting.export_objects.Goals as goal

pub loop-row-init : goal.loop-row-init
loop-row-init g c =
    let s = state_in c.args.drive.now in
    let store = store_of c.args.drive.now in
    let files = g.F.Folder.files c.args.folder.now in
    record {
      state = refl;
      store = refl;
      path = refl;
      exported = subst (λ (o : ℕ). ExportedTo s store c.args.at o files) (sym c.new-last.ensures) (none_exported s store c.args.at files c.requires.begun);
    }

pub export_object-requires : goal.export_object-requires
export_object-requires g c =
    let row = c.in-Some.row in
    record { visible = subst (λ (s : State). IsVisible s row.object c.args.at) (sym (ap (λ (l : Ledger). state_of l.history) c.next_listed.ensures.ledger)) c.in-Some.ensures.some.here.visible }

pub loop-row-preserved : goal.loop-row-preserved
loop-row-preserved g c =
    let files = g.F.Folder.files in
    let s = state_in c.args.drive.now in
    let store = store_of c.args.drive.now in
    let before = c.loop-row.invariant in
    let row = c.in-Some.row in
    let state : state_in c.next_listed.new.drive ≡ s = ap (λ (l : Ledger). state_of l.history) c.next_listed.ensures.ledger ∙ before.state in
    record {
      state = c.export_object.ensures.state ∙ state;
      store = c.export_object.ensures.store ∙ c.next_listed.ensures.store ∙ before.store;
      path = c.export_object.ensures.path ∙ before.path;
      exported = exported_on s store c.args.at c.loop-row.last row (files c.loop-row.folder) (files c.export_object.new.folder) before.exported
          (next_as_before s (state_in c.loop-row.drive) store (store_of c.loop-row.drive) c.args.at c.loop-row.last row before.state before.store c.in-Some.ensures.some)
          (c.in_ok-export_object.ensures.files ∙ ap (λ (x : State). option_map (with_object row (content_at x c.args.at row)) (files c.loop-row.folder)) state);
    }

pub returns-clause-exported : goal.returns-clause-exported
returns-clause-exported g c =
    let s = state_in c.args.drive.now in
    let store = store_of c.args.drive.now in
    let before = c.loop-row.invariant in
    all_exported s store c.args.at c.loop-row.last (g.F.Folder.files c.loop-row.folder) before.exported
    (λ o above. passed_as_before s (state_in c.loop-row.drive) store (store_of c.loop-row.drive) c.args.at o before.state before.store (c.in_default.ensures.none o above))
