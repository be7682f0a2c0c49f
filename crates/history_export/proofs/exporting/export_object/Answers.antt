use Rattle.std.proofs.Common.{◌≡◌, ◌∙◌, ℕ, List, ap, ap₂}
use Rattle.std.specs.Option.{option_map}
use Rattle.std.proofs.lemmas.Result.{on_ok_weaker}
use Rattle.s4_model.specs.VersionAt.{version_of}
use Rattle.drive.specs.Fields.{state_in}
use Rattle.history_view.specs.Contents.{content_of}
use Rattle.history_export.specs.Exports.{with_line}
use Rattle.history_export.specs.Manifest.{manifest_line}
use Rattle.history_export.proofs.exporting.export_object.Goals as goal

pub returns-clause-files : goal.returns-clause-files
returns-clause-files g c =
    let files = g.F.Folder.files in
    let row = c.args.row.now in
    let whole = content_of (version_of (state_in c.args.drive.now) row.object c.args.at) in
    let content : c.content_of-content.result.now ≡ whole = c.content_of-content.ensures ∙ ap content_of c.in_ok-version.ensures.version in
    let line : c.as_bytes.result.now ≡ manifest_line row whole = c.as_bytes.ensures.value ∙ c.in_ok-line.ensures ∙ ap (manifest_line row) content in
    on_ok_weaker c.add_object.result
    (λ grown. grown ∙ ap₂ (λ (bytes told : List ℕ). option_map (with_line row.object bytes told) (files c.args.folder.now)) content line)
    c.add_object.ensures.files
