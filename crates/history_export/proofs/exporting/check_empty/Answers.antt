use Rattle.history_export.proofs.Files.{of_folder}
use Rattle.history_export.proofs.exporting.check_empty.Goals as goal

pub returns-in-Err-clause-refused : goal.returns-in-Err-clause-refused
returns-in-Err-clause-refused g c = of_folder (g.F.Folder.files c.args.folder.now) c.reading.result c.reading.ensures.only
