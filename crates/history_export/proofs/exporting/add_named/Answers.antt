use Rattle.std.proofs.lemmas.Result.{on_ok_weaker}
use Rattle.history_export.specs.Folders.{with_file, with_bytes}
use Rattle.history_export.specs.Manifest.{manifest_name}
use Rattle.history_export.proofs.Files.{changes_join}
use Rattle.history_export.proofs.exporting.add_named.Goals as goal

pub returns-clause-files : goal.returns-clause-files
returns-clause-files g c =
    let files = g.F.Folder.files in
    on_ok_weaker c.add_line.result
    (λ grown. changes_join (with_file c.args.name.now c.args.content.now) (with_bytes manifest_name c.args.line.now) (files c.args.folder.now) (files c.make_file.new.folder) (files c.add_line.new.folder) c.in_ok-make_file.ensures.made grown)
    c.add_line.ensures.grown
