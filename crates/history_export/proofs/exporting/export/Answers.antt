use Rattle.std.proofs.lemmas.Result.{on_ok_weaker}
use Rattle.drive.specs.Fields.{state_in}
use Rattle.history_export.proofs.Files.{manifest_alone, if_writing_explains}
use Rattle.history_export.proofs.exporting.export.Goals as goal

pub export_objects-requires : goal.export_objects-requires
export_objects-requires g c =
    let files = g.F.Folder.files in
    record { begun = manifest_alone (state_in c.args.drive.now) c.args.at (files c.args.folder.now) (files c.begin_folder.new.folder) c.in_ok-begin_folder.ensures.empty c.in_ok-begin_folder.ensures.begun }

pub returns-clause-exports : goal.returns-clause-exports
returns-clause-exports g c = on_ok_weaker c.export_objects.result (λ has. record { empty = c.in_ok-begin_folder.ensures.empty; has = has }) c.export_objects.ensures.exported

pub returns-clause-refused : goal.returns-clause-refused
returns-clause-refused g c = if_writing_explains (g.F.Folder.files c.args.folder.now) c.export_objects.result c.export_objects.ensures.refused
