use Rattle.history_export.proofs.Files.{of_file}
use Rattle.history_export.proofs.exporting.make_file.Goals as goal

pub returns-in-Err-clause-refused : goal.returns-in-Err-clause-refused
returns-in-Err-clause-refused g c = of_file c.writing.result c.args.file c.writing.ensures.only
