use Rattle.std.proofs.Common.{rules, ◌≡◌, ◌∙◌, ℕ, List, ap}
use Rattle.std.specs.Option.{option_map}
use Rattle.std.proofs.lemmas.Result.{on_ok_weaker}
use Rattle.history_export.specs.Exports.{with_named}
use Rattle.history_export.specs.Manifest.{file_name}
use Rattle.history_export.proofs.exporting.add_object.Goals as goal

pub returns-clause-files : goal.returns-clause-files
returns-clause-files g c =
    let files = g.F.Folder.files in
    let name : c.as_str.result.now ≡ file_name c.args.object = search rules in
    on_ok_weaker c.add_named.result
    (λ grown. grown ∙ ap (λ (bytes : List ℕ). option_map (with_named bytes c.args.content.now c.args.line.now) (files c.args.folder.now)) name)
    c.add_named.ensures.files
